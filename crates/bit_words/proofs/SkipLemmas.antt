-- A walk passes over whole chunks of blocks.
use Rattle.std.proofs.Common.{◌≡◌, ℕ, ◌+◌, ◌-◌, ◌<◌, ◌≤◌, List, [], ◌∷◌, ◌++◌, drop, take, length, min}
use Rattle.std.proofs.{Common.{count_ones, refl, sym, ap, ◌∙◌, arith}, Math.Seq.{drop-drop, take-add}}
use Rattle.std.proofs.lemmas.{Bool.Decides.nat_tests, Option.slice_get_within, List.{drop-take, length-drop, take-append-drop, take-take, Sums.{sum_by-append, sum_by-cons, sum_by-take-drop}}}
use Rattle.std.specs.{List.{sum_by}}
use Rattle.bit_blocks.specs.{Bits.blocks_for, Storage.{ones_in}}
use Rattle.bit_words.specs.{Nonzero.{Nonzeros, SkipsBlocks, nonzero_from, ones_left}, Pending.{IsNextChunk, IsPending, left_from, next_at}}
use Rattle.bit_words.proofs.{NextAtLemmas.next_at-zero, PendingLemmas.{IsInHand-zero, count_past, left-split, stored_past}, PendingOnes.ones_nonzero}

-- ---- calls in a row

module _ {X : Type 0} (number : X → ℕ) where
  -- a walk that passed over nothing yet
  pub skips_none : (s : Nonzeros X) → SkipsBlocks number s 0 s
  skips_none s = record { count = 0; within = omega arith; left = refl; passed = refl; same = refl; counted = omega arith; goes_on = omega arith; summary = refl }

  pub skips_more : (s t u : Nonzeros X) (a b : ℕ) → SkipsBlocks number s a t → SkipsBlocks number t b u → SkipsBlocks number s (a + b) u
  skips_more s t u a b first next =
      let m : ℕ = first.count in
      let n : ℕ = next.count in
      let rest = ap length first.left ∙ length-drop m s.left in
      let within : m + n ≤ length s.left = omega (arith, first.within, next.within, rest) in
      let parts : take (m + n) s.left ≡ take m s.left ++ take n t.left =
      sym (take-append-drop m (take (m + n) s.left))
      ∙ ap (λ xs. xs ++ drop m (take (m + n) s.left)) (take-take m (m + n) s.left (omega arith))
      ∙ ap (λ xs. take m s.left ++ xs) (drop-take m n s.left ∙ ap (take n) (sym first.left)) in
      record {
        count = m + n;
        within = within;
        left = next.left ∙ ap (drop n) first.left ∙ drop-drop n m s.left;
        passed = let all = ap (ones_left number) parts in omega (arith, all, sum_by-append (λ (entry : ℕ × X). count_ones (number entry.1)) (take m s.left) (take n t.left), first.passed, next.passed);
        same = next.same ∙ first.same;
        counted = omega (arith, first.counted, next.counted);
        goes_on = omega (arith, first.goes_on, next.goes_on);
        summary = next.summary ∙ first.summary;
      }

  -- what was passed and what is left are all ones
  pub ones_past : (s t : Nonzeros X) (ones : ℕ) → SkipsBlocks number s ones t → ones + ones_left number t.left ≡ ones_left number s.left
  ones_past s t ones is =
      let rest = ap (ones_left number) is.left in
      omega (arith, is.passed, rest, sum_by-take-drop (λ (entry : ℕ × X). count_ones (number entry.1)) s.left is.count)

  -- As many blocks are not 0 as count one each.
  nonzero_counted : (k : ℕ) (xs : List X) → length (nonzero_from number k xs) ≡ sum_by (λ x. min 1 (number x)) xs
  nonzero_counted k [] = refl
  nonzero_counted k (x ∷ xs) = grind (arith, nat_tests, nonzero_counted (k + 1) xs, sum_by-cons (λ y. min 1 (number y)) x xs)

-- a sum over some blocks, and over the next ones
pub sum_more : {X : Type 0} (f : X → ℕ) (i n : ℕ) (xs : List X) → sum_by f (take (i + n) xs) ≡ sum_by f (take i xs) + sum_by f (take n (drop i xs))
sum_more f i n xs = ap (sum_by f) (take-add i n xs) ∙ sum_by-append f (take i xs) (take n (drop i xs))

-- the sum over those that are left
pub sum_rest : {X : Type 0} (f : X → ℕ) (i : ℕ) (xs rest : List X) → rest ≡ drop i xs → sum_by f (take i xs) + sum_by f rest ≡ sum_by f xs
sum_rest f i xs rest is =
    ap (λ ys. sum_by f (take i xs) + sum_by f ys) is ∙ sym (sum_by-append f (take i xs) (drop i xs)) ∙ ap (sum_by f) (take-append-drop i xs)

-- ---- one chunk

module _ {X : Type 0} (w : ℕ) (number : X → ℕ) (is_block : X → Type 0) where
  -- What is past the chunk is left, and the ones of the chunk are those of its blocks that are not 0.
  pub record IsPastChunk (index end : ℕ) (pending : X) (xs summary : List X) : Type 0 where
    pub chunk : List (ℕ × X)
    pub split : left_from number (next_at w index (number pending)) end xs ≡ chunk ++ left_from number (next_at w (index + w) (number pending)) end xs
    pub count : length chunk ≡ sum_by (λ x. min 1 (number x)) (take w (drop (index + w) xs))
    pub ones : ones_left number chunk ≡ ones_in number (take w (drop (index + w) xs))
    pub walk : IsPending w number is_block (index + w) end pending xs (drop 1 summary)
    pub one_less : blocks_for w (end - (index + w)) ≡ 1 + blocks_for w (end - (index + w + w))

  pub past_chunk : (index end : ℕ) (pending used : X) (xs summary : List X) → 0 < w → IsPending w number is_block index end pending xs summary
      → IsNextChunk w number index end pending summary used → IsPastChunk index end pending xs summary
  past_chunk index end pending used xs summary pos is next =
      let p = index + w in
      let hand = is.hand in
      let some : 0 < length summary = slice_get_within summary 0 used next.first in
      let ys = drop p (take (p + w) xs) in
      record {
        chunk = left_from number p (p + w) xs;
        split =
            ap (λ q. left_from number q end xs) (next_at-zero w index (number pending) next.used_up)
            ∙ left-split number p (p + w) end xs (omega arith) next.whole hand.ends
            ∙ ap (λ q. left_from number p (p + w) xs ++ left_from number q end xs) (sym (next_at-zero w p (number pending) next.used_up));
        count = nonzero_counted number p ys ∙ ap (sum_by (λ x. min 1 (number x))) (drop-take p w xs);
        ones = ones_nonzero w number is_block p ys ∙ ap (ones_in number) (drop-take p w xs);
        walk = record {
          hand = IsInHand-zero w number is_block p end pending xs hand.each hand.fits hand.of_block next.used_up (omega (arith, next.whole)) hand.ends;
          stored = stored_past w number is_block 1 p (p + w) end xs summary (drop 1 summary) pos (omega arith) is.stored (λ _. omega (arith, some)) refl;
        };
        one_less = count_past w number is_block 1 p (p + w) end xs summary pos (omega arith) is.stored (omega (arith, some));
      }
