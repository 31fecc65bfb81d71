-- How squares of bits are transposed, in rows of as many blocks each. No public clause cites this.
use Rattle.std.specs.Prelude.{◌≡◌, ℕ, ◌+◌, ◌*◌, ◌/◌, ◌<◌, ◌≤◌, ◌⊎◌, All, Bool, false, true, List, get_or, length}
use Rattle.bit_blocks.specs.Digits.{is_one}

-- The blocks are rows of so many each, as many rows as a block has bits.
pub record IsStrip {X : Type 0} (is_block : X → Type 0) (w width : ℕ) (xs : List X) : Type 0 where
  pub each : All is_block xs
  pub long : length xs ≡ w * width

-- They are so many rows of as many blocks each, of which k is an index.
pub record HasColumn {X : Type 0} (is_block : X → Type 0) (count stride k : ℕ) (xs : List X) : Type 0 where
  pub each : All is_block xs
  pub rows : length xs ≡ count * stride
  pub within : k < stride

-- digit c of block g of row i, where each row has so many blocks
abbrev pub digit_in : ℕ → List ℕ → ℕ → ℕ → ℕ → Bool
digit_in stride ms i g c = is_one (get_or ms (i * stride + g) 0) c

-- The index x in square a of the group h, where squares have a size and each group has so many of them.
abbrev pub index_of : ℕ → ℕ → ℕ → ℕ → ℕ → ℕ
index_of size count h a x = (h * count + a) * size + x

-- A block m became p, and n became q. What m has at the indexes in `right` is what n had lower by d, and what n has at those
-- in `left` is what m had higher by d.
pub record IsExchanged (w d left right m n p q : ℕ) : Type 0 where
  pub up : (c : ℕ) → c + d < w → is_one right (c + d) ≡ true → is_one p (c + d) ≡ is_one n c
  pub down : (c : ℕ) → c + d < w → is_one left c ≡ true → is_one q c ≡ is_one m (c + d)
  pub upper : (c : ℕ) → c < w → is_one right c ≡ false → is_one p c ≡ is_one m c
  pub lower : (c : ℕ) → c < w → is_one left c ≡ false → is_one q c ≡ is_one n c

-- So did so many blocks from one on, and as many from another on; the others stay.
pub record AreExchanged (w d left right upper lower count : ℕ) (ms ns : List ℕ) : Type 0 where
  pub each : (g : ℕ) → g < count → IsExchanged w d left right (get_or ms (upper + g) 0) (get_or ms (lower + g) 0)
      (get_or ns (upper + g) 0) (get_or ns (lower + g) 0)
  pub others : (q : ℕ) → (q < upper) ⊎ (upper + count ≤ q) → (q < lower) ⊎ (lower + count ≤ q)
      → get_or ns q 0 ≡ get_or ms q 0

-- What is in the rows of square a and the columns of square b of their groups is exchanged with what is in the rows of b and
-- the columns of a, and the other squares stay.
pub record ArePairsExchanged (w stride size count a b : ℕ) (ms ns : List ℕ) : Type 0 where
  pub up : (g h k x y : ℕ) → g < stride → h < w / (count * size) → k < w / (count * size) → x < size → y < size
      → digit_in stride ns (index_of size count h a x) g (index_of size count k b y)
      ≡ digit_in stride ms (index_of size count h b x) g (index_of size count k a y)
  pub down : (g h k x y : ℕ) → g < stride → h < w / (count * size) → k < w / (count * size) → x < size → y < size
      → digit_in stride ns (index_of size count h b x) g (index_of size count k a y)
      ≡ digit_in stride ms (index_of size count h a x) g (index_of size count k b y)
  pub others : (g h k c d x y : ℕ) → g < stride → h < w / (count * size) → k < w / (count * size) → c < count → d < count
      → x < size → y < size → ((c ≡ a) × (d ≡ b) → ⊥) → ((c ≡ b) × (d ≡ a) → ⊥)
      → digit_in stride ns (index_of size count h c x) g (index_of size count k d y)
      ≡ digit_in stride ms (index_of size count h c x) g (index_of size count k d y)

-- In each group all squares are exchanged so.
pub record AreSquaresExchanged (w stride size count : ℕ) (ms ns : List ℕ) : Type 0 where
  pub moved : (g h k a b x y : ℕ) → g < stride → h < w / (count * size) → k < w / (count * size) → a < count → b < count
      → x < size → y < size
      → digit_in stride ns (index_of size count h a x) g (index_of size count k b y)
      ≡ digit_in stride ms (index_of size count h b x) g (index_of size count k a y)

-- Digit j of block g of row i is digit i of block k of row g * w + j of the list ms, whose rows have so many blocks.
pub record IsTransposedStrip (w width stride k : ℕ) (ms ns : List ℕ) : Type 0 where
  pub digit : (i g j : ℕ) → i < w → g < width → j < w
      → digit_in width ns i g j ≡ is_one (get_or ms ((g * w + j) * stride + k) 0) i

-- Of the rows of so many blocks each, those from k * w on, as many as a block has bits, became what block k of each row of the
-- list ms has, transposed. The others stay.
pub record AreRowsTransposed (w width stride k : ℕ) (ms olds news : List ℕ) : Type 0 where
  pub digit : (i g j : ℕ) → i < w → g < width → j < w
      → digit_in width news (k * w + i) g j ≡ is_one (get_or ms ((g * w + j) * stride + k) 0) i
  pub others : (q : ℕ) → (q < k * (w * width)) ⊎ (k * (w * width) + w * width ≤ q) → get_or news q 0 ≡ get_or olds q 0
