-- What a list becomes by a merge with another, or by a pass over two others at once.
use Rattle.std.proofs.Common.{◌≡◌, ℕ, ◌/◌, ◌%◌, ◌^◌, ◌<◌, ◌≤◌, ◌↔◌, All, Bool, false, List, [], map, length, get_or, take}
use Rattle.std.proofs.Common.{replicate, refl, sym, ap, ap₂, ◌∙◌, arith, ⊎_elim, mod-lt, length-take, get_or-take}
use Rattle.std.proofs.lemmas.{Bool.cases_lt, List.length-map}
use Rattle.bit_blocks.specs.declared.block.merge.Merge.{Merge, TheVariants.{Difference, Intersection, Union}}
use Rattle.bit_blocks.specs.{Bits.Bits, Digits.is_one, Merges.{merge_of_values, merge_of}}
use Rattle.bit_blocks.specs.BlockMerges.{except_at, other_at, AreKept, CanMerge, HasMerged, HaveBecome}
use Rattle.bit_blocks.specs.Storage.{value_at, values_of, IsPacked, IsZeroFrom}
use Rattle.bit_blocks.proofs.{BitsLemmas.blocks_for-le, BlockMergeLemmas.{kept_lists, merges_of_values, same_numbers}}
use Rattle.bit_blocks.proofs.MergeLemmas.{get_or-merged, length-merged, merge_of_values-none, merged_lists, merged_zero_tail}
use Rattle.bit_blocks.proofs.StorageLemmas.{get_or-values_of_zero_tail, length-values_of, value_at-is, value_at-past}
use Rattle.bit_blocks.proofs.StorageLemmas.{values_of-replicate, values_of-same}
use Rattle.bit_blocks.proofs.VectorLemmas.{length_from_view, no_longer_from_views, numbers_below}

-- ---- the lists

-- merged with what two others make of each other, where nothing comes of what the first lacks
lists_merged_within : (m inner : Merge) (w : ℕ) (ms os es ns : List ℕ) (len short third : ℕ)
    → ((b : Bool) → merge_of_values inner false b ≡ false) → short ≤ len
    → IsZeroFrom w ms len → IsZeroFrom w os short → IsZeroFrom w es third
    → ((i : ℕ) → value_at w ns i ≡ merge_of_values m (value_at w ms i) (merge_of_values inner (value_at w os i) (value_at w es i)))
    → values_of w ns len ≡ merge_of m (values_of w ms len) (merge_of inner (values_of w os short) (take (length (values_of w os short)) (values_of w es third)))
lists_merged_within m inner w ms os es ns len short third none shorter zero_tail also more each =
    let xs = values_of w ms len in
    let ys = values_of w os short in
    let zs = take short (values_of w es third) in
    let long : length (merge_of inner ys zs) ≡ short = omega (arith, length-merged inner ys zs, length-values_of w os short, length-take short (values_of w es third)) in
    values_of-same w ns len _ (omega (arith, length-merged m xs (merge_of inner ys zs), length-values_of w ms len, long)) (λ i below.
    let first = get_or-values_of_zero_tail w os short i also in
    let cut : merge_of_values inner (value_at w os i) (value_at w es i) ≡ merge_of_values inner (get_or ys i false) (get_or zs i false) =
    ⊎_elim
    (λ early. grind (arith, first, get_or-values_of_zero_tail w es third i more, get_or-take short (values_of w es third) i false early))
    (λ late. grind (arith, first, also.zero_tail i late, none (value_at w es i), none (get_or zs i false)))
    (cases_lt i short) in
    each i
    ∙ ap (λ b. merge_of_values m b (merge_of_values inner (value_at w os i) (value_at w es i))) (sym (get_or-values_of_zero_tail w ms len i zero_tail))
    ∙ ap (merge_of_values m (get_or xs i false)) (cut ∙ sym (get_or-merged inner ys zs i))
    ∙ sym (get_or-merged m xs (merge_of inner ys zs) i))
    ∙ ap (λ k. merge_of m xs (merge_of inner ys (take k (values_of w es third)))) (sym (length-values_of w os short))

-- ---- the blocks

-- The blocks ys hold these n values.
pub record Holds {X : Type 0} (w : ℕ) (f : X → ℕ) (P : X → Type 0) (ys : List X) (n : ℕ) (values : List Bool) : Type 0 where
  pub packed : IsPacked w f P ys n
  pub same : values_of w (map f ys) n ≡ values

-- where a call says whether a block changed, it says whether a value did
pub kept_values : {X : Type 0} {w n r : ℕ} {f : X → ℕ} {P : X → Type 0} {xs ys : List X} {v : Bits} {b : Bool}
    → ((x : X) → P x → f x < 2 ^ w) → IsPacked w f P xs n → record { values = values_of w (map f xs) n; capacity = r } ≡ v
    → IsPacked w f P ys n → ((b ≡ false) ↔ AreKept (map f xs) (map f ys)) → (b ≡ false) ↔ (values_of w (map f ys) n ≡ v.values)
kept_values {w = w} {n = n} {f = f} {P = P} {xs = xs} {ys = ys} law packed is new kept =
    let lists = kept_lists w (map f xs) (map f ys) n (numbers_below w f P xs law packed.each) (numbers_below w f P ys law new.each) packed.tail new.tail in
    let view = ap (λ v. v.values) is in
    (λ no. lists.0 (kept.0 no) ∙ view, λ same. kept.1 (lists.1 (same ∙ sym view)))

-- another list that is no longer
module _ {X : Type 0} {w n m r s : ℕ} {f : X → ℕ} {P : X → Type 0} {xs os : List X} {v u : Bits} (pos : 0 < w)
    (packed : IsPacked w f P xs n) (also : IsPacked w f P os m)
    (is : record { values = values_of w (map f xs) n; capacity = r } ≡ v)
    (is_other : record { values = values_of w (map f os) m; capacity = s } ≡ u) (shorter : length u.values ≤ length v.values) where
  no_longer : m ≤ n
  no_longer = no_longer_from_views w n m r s (map f xs) (map f os) v u is is_other shorter

  pub fewer_blocks : length os ≤ length xs
  fewer_blocks = omega (arith, blocks_for-le w m n pos no_longer, packed.count, also.count)

  pub can_merge : CanMerge P xs (length os) (All P os)
  can_merge = record { fewer = fewer_blocks; each = packed.each; others = also.each }

  pub holds_merged : (merge : Merge) (ys : List X) → HasMerged merge w f P 0 (length xs) (other_at (map f os)) xs ys
      → Holds w f P ys n (merge_of merge v.values u.values)
  holds_merged merge ys has =
      let each = merges_of_values merge w f P xs os ys pos fewer_blocks has in
      record {
        packed = record {
          each = has.each;
          count = has.len ∙ packed.count;
          tail = merged_zero_tail merge w (map f xs) (map f os) (map f ys) n m no_longer packed.tail also.tail each;
          fits = packed.fits;
        };
        same = merged_lists merge w (map f xs) (map f os) (map f ys) n m no_longer packed.tail also.tail each
            ∙ ap₂ (λ a b. merge_of merge a.values b.values) is is_other;
      }

  -- and a third, of any length
  module _ {k t : ℕ} {es : List X} {e : Bits} (third : IsPacked w f P es k)
      (is_third : record { values = values_of w (map f es) k; capacity = t } ≡ e) (ys : List X) where
    pub holds_merged_within : (merge inner : Merge) → ((b : Bool) → merge_of_values inner false b ≡ false)
        → HasMerged merge w f P 0 (length xs) (λ q j. merge_of_values inner (is_one (get_or (map f os) q 0) j) (is_one (get_or (map f es) q 0) j)) xs ys
        → Holds w f P ys n (merge_of merge v.values (merge_of inner u.values (take (length u.values) e.values)))
    holds_merged_within merge inner none has =
        let each : (i : ℕ) → value_at w (map f ys) i
        ≡ merge_of_values merge (value_at w (map f xs) i) (merge_of_values inner (value_at w (map f os) i) (value_at w (map f es) i)) =
        λ i. grind (arith, value_at-is, value_at-past, has.digit (i / w) (i % w), mod-lt i pos, length-map, has.len, fewer_blocks, merge_of_values-none, none (value_at w (map f es) i)) in
        record {
          packed = record {
            each = has.each;
            count = has.len ∙ packed.count;
            tail = record {
              zero_tail = λ i past. grind (arith, each i, packed.tail.zero_tail i past, also.tail.zero_tail i (omega (arith, no_longer)), none (value_at w (map f es) i), merge_of_values-none);
            };
            fits = packed.fits;
          };
          same = lists_merged_within merge inner w (map f xs) (map f os) (map f es) (map f ys) n m k none no_longer packed.tail also.tail third.tail each
              ∙ ap₂ (λ a c. merge_of merge a.values c) is (ap₂ (λ a c. merge_of inner a.values (take (length a.values) c.values)) is_other is_third);
        }

    pub holds_difference : HaveBecome w f P 0 (length xs) (except_at (map f os) (map f es)) xs ys
        → Holds w f P ys n (merge_of Union (replicate (length v.values) false) (merge_of Difference u.values (take (length u.values) e.values)))
    holds_difference has =
        let each : (i : ℕ) → value_at w (map f ys) i ≡ merge_of_values Difference (value_at w (map f os) i) (value_at w (map f es) i) =
        λ i. grind (arith, value_at-is, value_at-past, has.digit (i / w) (i % w), mod-lt i pos, length-map, has.len, fewer_blocks) in
        let none : (i : ℕ) → value_at w [] i ≡ false = λ i. value_at-past w [] i (omega arith) in
        record {
          packed = record {
            each = has.each;
            count = has.len ∙ packed.count;
            tail = record { zero_tail = λ i past. grind (arith, each i, also.tail.zero_tail i (omega (arith, no_longer))) };
            fits = packed.fits;
          };
          same = lists_merged_within Union Difference w [] (map f os) (map f es) (map f ys) n m k (λ b. refl) no_longer (record { zero_tail = λ i past. none i })
              also.tail third.tail
              (λ i. each i ∙ ap (λ b. merge_of_values Union b (merge_of_values Difference (value_at w (map f os) i) (value_at w (map f es) i))) (sym (none i)))
              ∙ ap₂ (λ a c. merge_of Union a c)
              (values_of-replicate w [] n false (λ i below. none i) ∙ ap (λ k. replicate k false) (sym (length_from_view w n r (map f xs) v is)))
              (ap₂ (λ a c. merge_of Difference a.values (take (length a.values) c.values)) is_other is_third);
        }

-- ---- a list that keeps what it has of another side, and then takes the rest of that

module _ {X : Type 0} (w : ℕ) (f : X → ℕ) (P : X → Type 0) (other : ℕ → ℕ → Bool) (xs ys zs : List X) where
  pub become_in_two : HasMerged Intersection w f P 0 (length xs) other xs ys
      → HasMerged Union w f P 0 (length ys) other ys zs → HaveBecome w f P 0 (length xs) other xs zs
  become_in_two first second = record {
    digit = λ k j from below index. grind (arith, first.digit k j from below index, second.digit k j from (omega (arith, below, first.len)) index);
    before = λ k h. absurd (omega arith);
    after = λ k past. second.after k (omega (arith, past, first.len)) ∙ first.after k past;
    each = second.each;
    len = second.len ∙ first.len;
  }

  -- where it stays in all, it stays in both steps
  pub kept_in_two : ((x : X) → P x → f x < 2 ^ w) → All P xs
      → HasMerged Intersection w f P 0 (length xs) other xs ys → HasMerged Union w f P 0 (length ys) other ys zs
      → AreKept (map f xs) (map f zs) → AreKept (map f xs) (map f ys) × AreKept (map f ys) (map f zs)
  kept_in_two law each first second all =
      let here : AreKept (map f xs) (map f ys) = λ k.
      ⊎_elim
      (λ below. (same_numbers w f P 0 (length xs) ys xs law first.each each).0 (record {
        digit = λ q j from within index.
            grind (arith, first.digit q j from within index, (become_in_two first second).digit q j from within index, ap (λ n. is_one n j) (all q));
      }) k (omega arith) below)
      (λ past. first.after k past)
      (cases_lt k (length xs)) in
      (here, λ k. all k ∙ sym (here k))
