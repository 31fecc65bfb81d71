-- A walk that goes by the blocks that are not 0, with one of them in hand at either end: a step to the next such block, an
-- element taken out of it, and the end.
use Rattle.std.proofs.Common.{◌≡◌, ℕ, ◌+◌, ◌-◌, ◌*◌, ◌/◌, ◌^◌, ◌<◌, ◌≤◌, ◌==◌, min, Bool, true, false, if◌then◌else◌, List, [], ◌∷◌, ◌++◌, map, length, All, Some, None, refl, sym, ap, ◌∙◌}
use Rattle.std.proofs.{Common.{subst, arith, inl, inr, ap₂, length-append}, Math.Nat.mul-div_cancel}
use Rattle.std.proofs.lemmas.{Bool.{ne_eqb, eq-eqb, true≢false, Decides.nat_tests}, Nat.div-mul-add}
use Rattle.std.proofs.lemmas.List.{append-nil, append_assoc, map-append, Elements.{All-nil, All-head, All-pop, All-tail}}
use Rattle.bit_blocks.specs.{Highest.IsHighest, Lowest.{IsLowest, IsCleared}}
use Rattle.bit_words.specs.Nonzero.{Hand, Nonzeros, PullsLast, PullsNonzero, Refills, RunsOut, TakesFirst, TakesLast}
use Rattle.set_algebra.specs.Sets.{AscendsFrom, IsAscending}
use Rattle.bit_set.specs.{Indexes.{indexes, indexes_of, left_between, seen_of, IsSparseWalk}, Walk.{Walk, Advances, AdvancesBack, PullsBlocks, PullsBlocksBack}}
use Rattle.set_algebra.proofs.{MemberLemmas.{takes_greatest, takes_least}, SetLemmas.{AscendsFrom-init, AscendsFrom-lower, AscendsFrom-reach}}
use Rattle.bit_set.proofs.IndexLemmas.{indexes-none, indexes-lowest, indexes-highest}

pub whole_index : (w q : ℕ) → 0 < w → q * w / w ≡ q
whole_index w q pos = mul-div_cancel q pos

-- ---- lists without their last item

last_apart : {X : Type 0} (P : X → Type 0) (xs : List X) (x : X) → All P (xs ++ x ∷ []) → All P xs × P x
last_apart P xs x each = All-pop P (xs ++ x ∷ []) xs (Some x) refl each

-- the one above the last but one is enough
ascends-cut : (low k s : ℕ) (xs : List ℕ) → AscendsFrom low (xs ++ k ∷ [] ++ s ∷ []) → AscendsFrom low (xs ++ (k + 1) ∷ []) × (k < s)
ascends-cut low k s [] up = ((omega (arith, up.0), tt), omega (arith, up.1.0))
ascends-cut low k s (x ∷ xs) up = let rest = ascends-cut (x + 1) k s xs up.1 in ((up.0, rest.0), rest.1)

-- ---- what is left

module _ {X : Type 0} (w : ℕ) (number : X → ℕ) where
  pub indexes_of-append : (xs ys : List (ℕ × X)) → indexes_of w number (xs ++ ys) ≡ indexes_of w number xs ++ indexes_of w number ys
  indexes_of-append [] ys = refl
  indexes_of-append (entry ∷ entries) ys =
      ap (λ zs. indexes w (entry.0 * w) (number entry.1) [] ++ zs) (indexes_of-append entries ys)
      ∙ sym (append_assoc (indexes w (entry.0 * w) (number entry.1) []) (indexes_of w number entries) (indexes_of w number ys))

  indexes_of-pushed : (entries : List (ℕ × X)) (entry : ℕ × X) → indexes_of w number (entries ++ entry ∷ []) ≡ indexes_of w number entries ++ indexes w (entry.0 * w) (number entry.1) []
  indexes_of-pushed entries entry = indexes_of-append entries (entry ∷ []) ∙ ap (λ xs. indexes_of w number entries ++ xs) (append-nil (indexes w (entry.0 * w) (number entry.1) []))

-- A walk s has these blocks in hand now, and the same is left.
pub record Reaches {X : Type 0} (w : ℕ) (number : X → ℕ) (is_block : X → Type 0) (s : Walk) (front : Hand X) (it : Nonzeros X) (back : Hand X) : Type 0 where
  pub walk : IsSparseWalk w number is_block front it back
  pub same : left_between w number front it.left back ≡ s.left
  pub kept : it.pulls + length it.left ≡ s.pulls + s.nonzero_left

-- It went on from the front.
pub record ReachesNext {X : Type 0} (w : ℕ) (number : X → ℕ) (is_block : X → Type 0) (s : Walk) (front : Hand X) (it : Nonzeros X) (back : Hand X) : Type 0 where
  pub reached : Reaches w number is_block s front it back
  pub onward : s.index / w ≤ front.index / w
  pub along : front.index + w * (back.index / w - front.index / w) ≡ s.index + w * s.blocks
  pub fewer : back.index / w - front.index / w + (front.index / w - s.index / w) ≡ s.blocks
  pub pulls : it.pulls ≡ s.pulls + (if s.index / w == front.index / w then 0 else min 1 s.nonzero_left)
  pub summary : it.summary_pulls + it.summary_left ≡ s.summary_pulls + s.summary_left

-- It went on from the back.
pub record ReachesLast {X : Type 0} (w : ℕ) (number : X → ℕ) (is_block : X → Type 0) (s : Walk) (front : Hand X) (it : Nonzeros X) (back : Hand X) : Type 0 where
  pub reached : Reaches w number is_block s front it back
  pub goes_on : s.pulls ≤ it.pulls
  pub index : front.index ≡ s.index
  pub fewer : back.index / w - front.index / w ≤ s.blocks
  pub summary : it.summary_pulls ≡ s.summary_pulls
  pub summary_left : it.summary_left ≤ s.summary_left

no_pull : (b : Bool) (n p : ℕ) → n ≡ 0 → p ≡ p + (if b then 0 else min 1 n)
no_pull b n p none = grind (arith, none)

module _ {X : Type 0} (w : ℕ) (number : X → ℕ) (is_block : X → Type 0) (pos : 0 < w) where
  -- the block in hand at the back is none before the one at the front
  pub ends_apart : (front back : Hand X) (it : Nonzeros X) → IsSparseWalk w number is_block front it back → front.index / w ≤ back.index / w
  ends_apart front back it is = let reach = AscendsFrom-reach (front.index / w + 1) (map (λ entry. entry.0) it.left) (back.index / w + 1) is.past in omega (arith, reach)

  no_entries : {entries : List (ℕ × X)} → entries ≡ [] → All (λ (entry : ℕ × X). is_block entry.1) entries
  no_entries none = subst (All (λ (entry : ℕ × X). is_block entry.1)) (sym none) (All-nil (λ (entry : ℕ × X). is_block entry.1))

  -- from the front to the back it is as far
  along_by : (p q b : ℕ) → p ≡ p / w * w → q ≡ q / w * w → p / w ≤ b → q / w ≤ b → p + w * (b - p / w) ≡ q + w * (b - q / w)
  along_by p q b whole_p whole_q within_p within_q =
      let e = ap (λ n. w * n) (let e : p / w + (b - p / w) ≡ q / w + (b - q / w) = omega (arith, within_p, within_q) in e) in
      omega (arith, whole_p, whole_q, e)

  -- what holds of what is left goes over
  moved : (front back new other : Hand X) (s t : Nonzeros X) → IsSparseWalk w number is_block front s back → is_block new.block → is_block other.block
      → All (λ (entry : ℕ × X). is_block entry.1) t.left → t.blocks ≡ s.blocks → new.index ≡ new.index / w * w → other.index ≡ other.index / w * w
      → AscendsFrom (new.index / w + 1) (map (λ entry. entry.0) t.left ++ (other.index / w + 1) ∷ [])
      → other.index / w ≤ back.index / w → left_between w number new t.left other ≡ left_between w number front s.left back
      → IsSparseWalk w number is_block new t other
  moved front back new other s t is lawful lawful_too each blocks whole whole_too past inside same = record {
    in_hand = lawful;
    at_back = lawful_too;
    each = each;
    whole = whole;
    whole_back = whole_too;
    past = past;
    inside = let count = ap length blocks in omega (arith, inside, is.inside, count);
    fits = subst (λ xs. (length xs - 1) * w < 2 ^ 64) (sym blocks) is.fits;
    ascends = subst IsAscending (sym same) is.ascends;
    below = subst (All (λ n. n < 2 ^ 64 - 1)) (sym same) is.below;
    count_fits = subst (λ xs. length xs < 2 ^ 64) (sym same) is.count_fits;
  }

  -- ---- the hand at the front

  stays_next : (front back : Hand X) (s : Nonzeros X) → IsSparseWalk w number is_block front s back → ReachesNext w number is_block (seen_of w number front s back) front s back
  stays_next front back s is = record {
    reached = record { walk = is; same = refl; kept = refl };
    onward = omega arith;
    along = refl;
    fewer = omega arith;
    pulls = (let e : s.pulls ≡ s.pulls + 0 = omega arith in e) ∙ ap (λ b. s.pulls + (if b then 0 else min 1 (length s.left))) (sym (eq-eqb (front.index / w) (front.index / w) refl));
    summary = refl;
  }

  fills_next : (front back new : Hand X) (s t : Nonzeros X) (k : ℕ) → IsSparseWalk w number is_block front s back
      → is_block new.block → number front.block ≡ 0 → TakesFirst s (Some (k, new.block)) t → new.index ≡ k * w
      → ReachesNext w number is_block (seen_of w number front s back) new t back
  fills_next front back new s t k is lawful used_up pull index =
      let at : new.index / w ≡ k = ap (λ n. n / w) index ∙ whole_index w k pos in
      let up = subst (λ entries. AscendsFrom (front.index / w + 1) (map (λ entry. entry.0) entries ++ (back.index / w + 1) ∷ [])) pull.item is.past in
      let reach = AscendsFrom-reach (k + 1) (map (λ entry. entry.0) t.left) (back.index / w + 1) up.1 in
      let apart = ends_apart front back s is in
      let at_back = indexes w back.index (number back.block) [] in
      let same : left_between w number new t.left back ≡ left_between w number front s.left back =
      sym (
      ap₂ (λ xs entries. xs ++ (indexes_of w number entries ++ at_back)) (indexes-none w front.index (number front.block) used_up) pull.item
      ∙ append_assoc (indexes w (k * w) (number new.block) []) (indexes_of w number t.left) at_back
      ∙ ap (λ p. indexes w p (number new.block) [] ++ (indexes_of w number t.left ++ at_back)) (sym index)
      ) in
      let other : (front.index / w == new.index / w) ≡ false = ne_eqb _ _ (λ e. omega (arith, e, at, up.0)) in
      let count = ap length pull.item in
      let whole : new.index ≡ new.index / w * w = index ∙ ap (λ n. n * w) (sym at) in
      record {
        reached = record {
          walk = moved front back new back s t is lawful is.at_back (All-tail (λ (entry : ℕ × X). is_block entry.1) (k, new.block) t.left
              (subst (All (λ (entry : ℕ × X). is_block entry.1)) pull.item is.each)) pull.same whole is.whole_back
              (subst (λ n. AscendsFrom (n + 1) (map (λ entry. entry.0) t.left ++ (back.index / w + 1) ∷ [])) (sym at) up.1) (omega arith) same;
          same = same;
          kept = omega (arith, pull.counted, count);
        };
        onward = omega (arith, at, up.0);
        along = along_by new.index front.index (back.index / w) whole is.whole (omega (arith, at, reach)) apart;
        fewer = omega (arith, at, reach, up.0, apart);
        pulls = grind (arith, nat_tests, pull.counted, other, count);
        summary = pull.summary;
      }

  takes_over_next : (front back new other : Hand X) (s t : Nonzeros X) → IsSparseWalk w number is_block front s back
      → is_block other.block → number front.block ≡ 0 → TakesFirst s None t → new ≡ back → other.index ≡ back.index → number other.block ≡ 0
      → ReachesNext w number is_block (seen_of w number front s back) new t other
  takes_over_next front back new other s t is lawful used_up look taken index other_used_up =
      let apart = ends_apart front back s is in
      let at_back = indexes w back.index (number back.block) [] in
      let same : left_between w number back t.left other ≡ left_between w number front s.left back =
      ap₂ (λ entries xs. at_back ++ (indexes_of w number entries ++ xs)) look.item.1 (indexes-none w other.index (number other.block) other_used_up)
      ∙ append-nil at_back
      ∙ sym (ap₂ (λ xs entries. xs ++ (indexes_of w number entries ++ at_back)) (indexes-none w front.index (number front.block) used_up) look.item.0) in
      let left = ap length look.item.1 in
      let was = ap length look.item.0 in
      let at = ap (λ n. n / w) index in
      let whole : other.index ≡ other.index / w * w = index ∙ is.whole_back ∙ ap (λ n. n * w) (sym at) in
      let past : AscendsFrom (back.index / w + 1) (map (λ entry. entry.0) t.left ++ (other.index / w + 1) ∷ []) =
      subst (λ entries. AscendsFrom (back.index / w + 1) (map (λ (entry : ℕ × X). entry.0) entries ++ (other.index / w + 1) ∷ [])) (sym look.item.1) (omega (arith, at), tt) in
      rw taken (record {
        reached = record {
          walk = moved front back back other s t is is.at_back lawful (no_entries look.item.1) look.same is.whole_back whole past (omega (arith, at)) same;
          same = same;
          kept = omega (arith, look.counted, left, was);
        };
        onward = apart;
        along = (rw at (along_by back.index front.index (back.index / w) is.whole_back is.whole (omega arith) apart));
        fewer = omega (arith, at, apart);
        pulls = look.counted ∙ no_pull _ (length s.left) s.pulls was;
        summary = look.summary;
      })

  -- a refill that found a block, or had one
  pub refilled : (front back new other : Hand X) (s t : Nonzeros X) → IsSparseWalk w number is_block front s back
      → is_block new.block → is_block other.block → Refills TakesFirst PullsNonzero w number s front back true t new other
      → ReachesNext w number is_block (seen_of w number front s back) new t other
  refilled front back new other s t is lawful lawful_too found =
      elim found [
        | inl stays ↦ rw (stays.walk, stays.hand_stays, stays.other_stays) (stays_next front back s is)
        | inr past ↦ elim past [
          | inl fills ↦ rw fills.other_stays (fills_next front back new s t fills.k is lawful fills.used_up fills.pulled fills.index)
          | inr rest ↦ elim rest [
            | inl takes ↦ takes_over_next front back new other s t is lawful_too takes.used_up takes.none_left takes.taken takes.other_index takes.other_used_up
            | inr out ↦ absurd (true≢false out.not_found)
          ]
        ]
      ]

  -- one that found none
  pub refilled-end : (front back new other : Hand X) (s t : Nonzeros X) → IsSparseWalk w number is_block front s back → Refills TakesFirst PullsNonzero w number s front back false t new other
      → (IsSparseWalk w number is_block (record { block = new.block; index = back.index }) t other
      × Advances w (seen_of w number front s back) None (seen_of w number (record { block = new.block; index = back.index }) t other))
  unfolding PullsBlocks
  refilled-end front back new other s t is found =
      elim found [
        | inl stays ↦ absurd (true≢false (sym stays.is_found))
        | inr past ↦ elim past [
          | inl fills ↦ absurd (true≢false (sym fills.is_found))
          | inr rest ↦ elim rest [
            | inl takes ↦ absurd (true≢false (sym takes.is_found))
            | inr out ↦ rw (out.hand_stays, out.other_stays) (ended out)
          ]
        ]
      ]
    where
      ended : RunsOut PullsNonzero number s front back false t new other
          → (IsSparseWalk w number is_block (record { block = front.block; index = back.index }) t back
          × Advances w (seen_of w number front s back) None (seen_of w number (record { block = front.block; index = back.index }) t back))
      ended out =
          let apart = ends_apart front back s is in
          let was : left_between w number front s.left back ≡ [] =
          ap₂ (λ xs entries. xs ++ (indexes_of w number entries ++ indexes w back.index (number back.block) [])) (indexes-none w front.index (number front.block) out.used_up) out.end.item.0
          ∙ indexes-none w back.index (number back.block) out.other_used_up in
          let now : left_between w number (record { block = front.block; index = back.index }) t.left back ≡ [] =
          ap₂ (λ xs entries. xs ++ (indexes_of w number entries ++ indexes w back.index (number back.block) [])) (indexes-none w back.index (number front.block) out.used_up) out.end.item.1
          ∙ indexes-none w back.index (number back.block) out.other_used_up in
          let none = ap length out.end.item.1 in
          let none_before = ap length out.end.item.0 in (
            moved front back (record { block = front.block; index = back.index }) back s t is is.in_hand is.at_back (no_entries out.end.item.1) out.end.same is.whole_back is.whole_back
                (subst (λ entries. AscendsFrom (back.index / w + 1) (map (λ (entry : ℕ × X). entry.0) entries ++ (back.index / w + 1) ∷ [])) (sym out.end.item.1) (omega arith, tt))
                (omega arith) (now ∙ sym was),
            record {
              item = (was, now);
              first = tt;
              fits = tt;
              pulls = record {
                goes_on = omega (arith, out.end.counted);
                pulled = omega (arith, out.end.counted);
                along = along_by back.index front.index (back.index / w) is.whole_back is.whole (omega arith) apart;
                at = omega arith;
                sparse = out.end.counted;
                nonzero = (none_before, none);
                summary = out.end.summary;
              };
            },
          )

  -- the lowest one of the block that was reached is taken
  pub given_one : (s : Walk) (front back : Hand X) (i : ℕ) (r : X) (it : Nonzeros X) → ReachesNext w number is_block s front it back
      → is_block r → IsLowest (number front.block) i → i < w → IsCleared w (number front.block) i (number r)
      → (IsSparseWalk w number is_block (record { block = r; index = front.index }) it back × (front.index + i < 2 ^ 64 - 1)
      × Advances w s (Some (front.index + i)) (seen_of w number (record { block = r; index = front.index }) it back))
  unfolding PullsBlocks
  given_one s front back i r it to lawful low within cleared =
      let is = to.reached.walk in
      let rest = indexes_of w number it.left ++ indexes w back.index (number back.block) [] in
      let new : Hand X = record { block = r; index = front.index } in
      let taken : left_between w number front it.left back ≡ (front.index + i) ∷ left_between w number new it.left back =
      ap (λ xs. xs ++ rest) (indexes-lowest w front.index (number front.block) (number r) i [] low within cleared) in
      let up = subst IsAscending taken is.ascends in
      let below = subst (All (λ n. n < 2 ^ 64 - 1)) taken is.below in
      let item : s.left ≡ (front.index + i) ∷ left_between w number new it.left back = sym to.reached.same ∙ taken in
      let index_is : (front.index + i) / w ≡ front.index / w = ap (λ n. (n + i) / w) is.whole ∙ div-mul-add (front.index / w) w i within in
      let most : (if s.index / w == front.index / w then 0 else min 1 s.nonzero_left) ≤ front.index / w - s.index / w = grind (arith, nat_tests, to.onward) in (
        record {
          in_hand = lawful;
          at_back = is.at_back;
          each = is.each;
          whole = is.whole;
          whole_back = is.whole_back;
          past = is.past;
          inside = is.inside;
          fits = is.fits;
          ascends = AscendsFrom-lower (front.index + i + 1) 0 _ (omega arith) up.1;
          below = All-tail (λ n. n < 2 ^ 64 - 1) (front.index + i) _ below;
          count_fits = omega (arith, is.count_fits, ap length taken);
        },
        All-head (λ n. n < 2 ^ 64 - 1) (front.index + i) _ below,
        record {
          item = item;
          first = takes_least 0 s.left (front.index + i) _ (subst IsAscending to.reached.same is.ascends) item;
          fits = All-head (λ n. n < 2 ^ 64 - 1) (front.index + i) _ below;
          pulls = record {
            goes_on = omega (arith, to.pulls);
            pulled = omega (arith, to.pulls, most, to.fewer);
            along = to.along;
            at = (omega arith, omega (arith, within));
            sparse = record {
              onward = omega (arith, to.onward, index_is);
              index = is.whole ∙ ap (λ n. n * w) (sym index_is);
              pulls = to.pulls ∙ ap (λ n. s.pulls + (if s.index / w == n then 0 else min 1 s.nonzero_left)) (sym index_is);
            };
            nonzero = to.reached.kept;
            summary = to.summary;
          };
        },
      )

  -- ---- the hand at the back

  stays_last : (front back : Hand X) (s : Nonzeros X) → IsSparseWalk w number is_block front s back → ReachesLast w number is_block (seen_of w number front s back) front s back
  stays_last front back s is = record {
    reached = record { walk = is; same = refl; kept = refl };
    goes_on = omega arith;
    index = refl;
    fewer = omega arith;
    summary = refl;
    summary_left = omega arith;
  }

  fills_last : (front back new : Hand X) (s t : Nonzeros X) (k : ℕ) → IsSparseWalk w number is_block front s back
      → is_block new.block → number back.block ≡ 0 → TakesLast s (Some (k, new.block)) t → new.index ≡ k * w
      → ReachesLast w number is_block (seen_of w number front s back) front t new
  fills_last front back new s t k is lawful used_up pull index =
      let at : new.index / w ≡ k = ap (λ n. n / w) index ∙ whole_index w k pos in
      let numbers : map (λ (entry : ℕ × X). entry.0) s.left ≡ map (λ (entry : ℕ × X). entry.0) t.left ++ k ∷ [] =
      ap (map (λ (entry : ℕ × X). entry.0)) pull.item ∙ map-append (λ (entry : ℕ × X). entry.0) t.left ((k, new.block) ∷ []) in
      let up = ascends-cut (front.index / w + 1) k (back.index / w + 1) (map (λ entry. entry.0) t.left)
      (subst (λ ks. AscendsFrom (front.index / w + 1) (ks ++ (back.index / w + 1) ∷ [])) numbers is.past) in
      let at_front = indexes w front.index (number front.block) [] in
      let same : left_between w number front t.left new ≡ left_between w number front s.left back =
      sym (
      ap₂ (λ entries xs. at_front ++ (indexes_of w number entries ++ xs)) pull.item (indexes-none w back.index (number back.block) used_up)
      ∙ ap (λ xs. at_front ++ xs) (
      append-nil (indexes_of w number (t.left ++ (k, new.block) ∷ []))
      ∙ indexes_of-pushed w number t.left (k, new.block)
      ∙ ap (λ p. indexes_of w number t.left ++ indexes w p (number new.block) []) (sym index)
      )
      ) in
      let count = ap length pull.item ∙ length-append t.left ((k, new.block) ∷ []) in
      record {
        reached = record {
          walk = moved front back front new s t is is.in_hand lawful (last_apart (λ (entry : ℕ × X). is_block entry.1) t.left (k, new.block)
              (subst (All (λ (entry : ℕ × X). is_block entry.1)) pull.item is.each)).0 pull.same is.whole (index ∙ ap (λ n. n * w) (sym at))
              (subst (λ n. AscendsFrom (front.index / w + 1) (map (λ entry. entry.0) t.left ++ (n + 1) ∷ [])) (sym at) up.0) (omega (arith, at, up.1)) same;
          same = same;
          kept = omega (arith, pull.counted, count);
        };
        goes_on = omega (arith, pull.counted);
        index = refl;
        fewer = omega (arith, at, up.1);
        summary = pull.summary;
        summary_left = pull.summary_left;
      }

  takes_over_last : (front back new other : Hand X) (s t : Nonzeros X) → IsSparseWalk w number is_block front s back
      → is_block other.block → number back.block ≡ 0 → TakesLast s None t → new ≡ front → other.index ≡ front.index → number other.block ≡ 0
      → ReachesLast w number is_block (seen_of w number front s back) other t new
  takes_over_last front back new other s t is lawful used_up look taken index other_used_up =
      let apart = ends_apart front back s is in
      let at_front = indexes w front.index (number front.block) [] in
      let same : left_between w number other t.left front ≡ left_between w number front s.left back =
      ap₂ (λ xs entries. xs ++ (indexes_of w number entries ++ at_front)) (indexes-none w other.index (number other.block) other_used_up) look.item.1
      ∙ sym (append-nil at_front)
      ∙ sym (ap₂ (λ entries xs. at_front ++ (indexes_of w number entries ++ xs)) look.item.0 (indexes-none w back.index (number back.block) used_up)) in
      let left = ap length look.item.1 in
      let was = ap length look.item.0 in
      let at = ap (λ n. n / w) index in
      let whole : other.index ≡ other.index / w * w = index ∙ is.whole ∙ ap (λ n. n * w) (sym at) in
      let past : AscendsFrom (other.index / w + 1) (map (λ entry. entry.0) t.left ++ (front.index / w + 1) ∷ []) =
      subst (λ entries. AscendsFrom (other.index / w + 1) (map (λ (entry : ℕ × X). entry.0) entries ++ (front.index / w + 1) ∷ [])) (sym look.item.1) (omega (arith, at), tt) in
      rw taken (record {
        reached = record {
          walk = moved front back other front s t is lawful is.in_hand (no_entries look.item.1) look.same whole is.whole past apart same;
          same = same;
          kept = omega (arith, look.counted, left, was);
        };
        goes_on = omega (arith, look.counted);
        index = index;
        fewer = omega (arith, at);
        summary = look.summary;
        summary_left = look.summary_left;
      })

  pub refilled_back : (front back new other : Hand X) (s t : Nonzeros X) → IsSparseWalk w number is_block front s back
      → is_block new.block → is_block other.block → Refills TakesLast PullsLast w number s back front true t new other
      → ReachesLast w number is_block (seen_of w number front s back) other t new
  refilled_back front back new other s t is lawful lawful_too found =
      elim found [
        | inl stays ↦ rw (stays.walk, stays.hand_stays, stays.other_stays) (stays_last front back s is)
        | inr past ↦ elim past [
          | inl fills ↦ rw fills.other_stays (fills_last front back new s t fills.k is lawful fills.used_up fills.pulled fills.index)
          | inr rest ↦ elim rest [
            | inl takes ↦ takes_over_last front back new other s t is lawful_too takes.used_up takes.none_left takes.taken takes.other_index takes.other_used_up
            | inr out ↦ absurd (true≢false out.not_found)
          ]
        ]
      ]

  pub refilled_back-end : (front back new other : Hand X) (s t : Nonzeros X) → IsSparseWalk w number is_block front s back → Refills TakesLast PullsLast w number s back front false t new other
      → (IsSparseWalk w number is_block other t (record { block = new.block; index = front.index })
      × AdvancesBack w (seen_of w number front s back) None (seen_of w number other t (record { block = new.block; index = front.index })))
  unfolding PullsBlocksBack
  refilled_back-end front back new other s t is found =
      elim found [
        | inl stays ↦ absurd (true≢false (sym stays.is_found))
        | inr past ↦ elim past [
          | inl fills ↦ absurd (true≢false (sym fills.is_found))
          | inr rest ↦ elim rest [
            | inl takes ↦ absurd (true≢false (sym takes.is_found))
            | inr out ↦ rw (out.hand_stays, out.other_stays) (ended out)
          ]
        ]
      ]
    where
      ended : RunsOut PullsLast number s back front false t new other
          → (IsSparseWalk w number is_block front t (record { block = back.block; index = front.index })
          × AdvancesBack w (seen_of w number front s back) None (seen_of w number front t (record { block = back.block; index = front.index })))
      ended out =
          let apart = ends_apart front back s is in
          let was : left_between w number front s.left back ≡ [] =
          ap₂ (λ xs entries. xs ++ (indexes_of w number entries ++ indexes w back.index (number back.block) [])) (indexes-none w front.index (number front.block) out.other_used_up) out.end.item.0
          ∙ indexes-none w back.index (number back.block) out.used_up in
          let now : left_between w number front t.left (record { block = back.block; index = front.index }) ≡ [] =
          ap₂ (λ xs entries. xs ++ (indexes_of w number entries ++ indexes w front.index (number back.block) [])) (indexes-none w front.index (number front.block) out.other_used_up) out.end.item.1
          ∙ indexes-none w front.index (number back.block) out.used_up in (
            moved front back front (record { block = back.block; index = front.index }) s t is is.in_hand is.at_back (no_entries out.end.item.1) out.end.same is.whole is.whole
                (subst (λ entries. AscendsFrom (front.index / w + 1) (map (λ (entry : ℕ × X). entry.0) entries ++ (front.index / w + 1) ∷ [])) (sym out.end.item.1) (omega arith, tt))
                apart (now ∙ sym was),
            record {
              item = (was, now);
              last = tt;
              fits = tt;
              pulls = record {
                pulled = (out.end.counted, ap length out.end.item.0, ap length out.end.item.1);
                goes_on = omega (arith, out.end.counted);
                index = refl;
                fewer = omega arith;
                at = omega arith;
                summary = out.end.summary;
                summary_left = out.end.summary_left;
              };
            },
          )

  -- the highest one of the block that was reached is taken
  pub given_last : (s : Walk) (front back : Hand X) (i : ℕ) (r : X) (it : Nonzeros X) → ReachesLast w number is_block s front it back
      → is_block r → number r < 2 ^ w → IsHighest (number back.block) i → i < w → IsCleared w (number back.block) i (number r)
      → (IsSparseWalk w number is_block front it (record { block = r; index = back.index }) × (back.index + i < 2 ^ 64 - 1)
      × AdvancesBack w s (Some (back.index + i)) (seen_of w number front it (record { block = r; index = back.index })))
  unfolding PullsBlocksBack
  given_last s front back i r it to lawful small high within cleared =
      let is = to.reached.walk in
      let apart = ends_apart front back it is in
      let new : Hand X = record { block = r; index = back.index } in
      let at_front = indexes w front.index (number front.block) [] in
      let inner = indexes_of w number it.left in
      let last = indexes w back.index (number r) [] in
      let x = back.index + i in
      let taken : left_between w number front it.left back ≡ left_between w number front it.left new ++ x ∷ [] =
      ap (λ xs. at_front ++ (inner ++ xs)) (indexes-highest w back.index (number back.block) (number r) i high within cleared small)
      ∙ ap (λ xs. at_front ++ xs) (sym (append_assoc inner last (x ∷ [])))
      ∙ sym (append_assoc at_front (inner ++ last) (x ∷ [])) in
      let up : IsAscending (left_between w number front it.left new ++ x ∷ []) = subst IsAscending taken is.ascends in
      let below = subst (All (λ n. n < 2 ^ 64 - 1)) taken is.below in
      let item : s.left ≡ left_between w number front it.left new ++ x ∷ [] = sym to.reached.same ∙ taken in
      let index_is : x / w ≡ back.index / w = ap (λ n. (n + i) / w) is.whole_back ∙ div-mul-add (back.index / w) w i within in (
        record {
          in_hand = is.in_hand;
          at_back = lawful;
          each = is.each;
          whole = is.whole;
          whole_back = is.whole_back;
          past = is.past;
          inside = is.inside;
          fits = is.fits;
          ascends = AscendsFrom-init 0 _ x up;
          below = (last_apart (λ n. n < 2 ^ 64 - 1) (left_between w number front it.left new) x below).0;
          count_fits = omega (arith, is.count_fits, ap length taken ∙ length-append (left_between w number front it.left new) (x ∷ []));
        },
        (last_apart (λ n. n < 2 ^ 64 - 1) (left_between w number front it.left new) x below).1,
        record {
          item = item;
          last = takes_greatest s.left _ x (subst IsAscending to.reached.same is.ascends) item;
          fits = (last_apart (λ n. n < 2 ^ 64 - 1) (left_between w number front it.left new) x below).1;
          pulls = record {
            pulled = to.reached.kept;
            goes_on = to.goes_on;
            index = to.index;
            fewer = to.fewer;
            at = omega (arith, apart, index_is);
            summary = to.summary;
            summary_left = to.summary_left;
          };
        },
      )
