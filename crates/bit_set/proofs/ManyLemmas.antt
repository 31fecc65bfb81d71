-- Sets that are made of many: what each number becomes, and how long the lists are.
use Rattle.std.proofs.Common.{◌≡◌, ◌≢◌, ℕ, ◌<◌, ◌≤◌, max, min, Bool, true, false, ◌↔◌, ◌&&◌, ◌||◌, IsTrue, All, Any, List, [], ◌∷◌, map, length, get_or, refl, sym, ◌∙◌, arith, ⊎_elim}
use Rattle.std.{proofs.{Math.Bool.or-false, lemmas.Bool.cases_lt}, specs.List.{fold, list_all, list_any}}
use Rattle.std.proofs.lemmas.List.{Elements.{All-cons, All-head, All-nil, All-tail, All-weaker}, Folds.{Any-from_list_any, list_any-from_Any}, Sums.{AllPass-from_list_all, list_all-from_AllPass}}
use Rattle.bit_blocks.specs.{Bits.Bits, declared.block.merge.Merge.{TheVariants.{Intersection, Union}}}
use Rattle.set_algebra.{specs.Sets.{IsAscending, elements, has, intersection, union}, proofs.ValueLemmas.has-past}
use Rattle.bit_set.specs.Many.{HasEach, HasSome, intersection_all, longest, merged_at, shortest, union_all}
use Rattle.set_algebra.proofs.{AlgebraLemmas.{has-intersection, has-union, IsAscending-merge_of_sets}, MemberLemmas.none_from_members, SetLemmas.{has-elements, same_members, IsAscending-elements}}

-- ---- one number

some_merged : (n : ℕ) (b : Bool) (ss : List Bits)
    → merged_at Union ss n b ≡ (b || list_any (λ s. has (elements s.values) n) ss)
some_merged n b [] = sym (or-false b)
some_merged n b (s ∷ ss) = let rest = some_merged n (b || get_or s.values n false) ss in
    grind (arith, has-elements s.values n)

each_merged : (n : ℕ) (b : Bool) (ss : List Bits)
    → merged_at Intersection ss n b ≡ (b && list_all (λ s. has (elements s.values) n) ss)
each_merged n b [] = grind arith
each_merged n b (s ∷ ss) = let rest = each_merged n (b && get_or s.values n false) ss in
    grind (arith, has-elements s.values n)

has-union_all : (t : List ℕ) (n : ℕ) (ss : List Bits)
    → has (fold union t (map (λ s. elements s.values) ss)) n ≡ (has t n || list_any (λ s. has (elements s.values) n) ss)
has-union_all t n [] = sym (or-false (has t n))
has-union_all t n (s ∷ ss) = let rest = has-union_all (union t (elements s.values)) n ss in
    grind (arith, has-union t (elements s.values) n)

has-intersection_all : (t : List ℕ) (n : ℕ) (ss : List Bits)
    → has (fold intersection t (map (λ s. elements s.values) ss)) n ≡ (has t n && list_all
    (λ s. has (elements s.values) n) ss)
has-intersection_all t n [] = grind arith
has-intersection_all t n (s ∷ ss) = let rest = has-intersection_all
    (intersection t (elements s.values)) n ss in grind (arith, has-intersection t (elements s.values) n)

-- ---- in order

ascends-union_all : (t : List ℕ) (ss : List (List ℕ)) → IsAscending t → IsAscending (fold union t ss)
ascends-union_all t [] up = up
ascends-union_all t (s ∷ ss) up = ascends-union_all (union t s) ss (IsAscending-merge_of_sets Union t s up)

ascends-intersection_all : (t : List ℕ) (ss : List (List ℕ)) → IsAscending t → IsAscending (fold intersection t ss)
ascends-intersection_all t [] up = up
ascends-intersection_all t (s ∷ ss) up = ascends-intersection_all (intersection t s) ss
    (IsAscending-merge_of_sets Intersection t s up)

-- ---- how long the lists are

-- none is longer than the longest
below_most : (a n : ℕ) (ss : List Bits) → fold (λ most s. max most (length s.values)) a ss ≤ n
    → (a ≤ n) × All (λ s. length s.values ≤ n) ss
below_most a n [] le = (le, All-nil (λ s. length s.values ≤ n))
below_most a n (s ∷ ss) le = let rest = below_most (max a (length s.values)) n ss le in
    (omega (arith, rest.0), All-cons (λ s. length s.values ≤ n) s ss (omega (arith, rest.0)) rest.1)

pub none_longer : (Q : Type 0) (ss : List Bits) → All (λ s. longest ss < length s.values → Q) ss
none_longer Q ss =
    All-weaker (λ s. length s.values ≤ longest ss) (λ s. longest ss < length s.values → Q)
    (λ s le longer. absurd (omega arith)) ss (below_most 0 (longest ss) ss (omega arith)).1

-- past the longest no list has a number
none_past : (n : ℕ) (ss : List Bits) → All (λ s. length s.values ≤ n) ss
    → list_any (λ s. has (elements s.values) n) ss ≡ false
none_past n [] all = refl
none_past n (s ∷ ss) all =
    let rest = none_past n ss (All-tail (λ t. length t.values ≤ n) s ss all) in
    grind (arith, has-past s.values n (All-head (λ t. length t.values ≤ n) s ss all))

-- past the shortest some list does not
not_each : (a n : ℕ) (ss : List Bits) → fold (λ least s. min least (length s.values)) a ss ≤ n → n < a
    → list_all (λ s. has (elements s.values) n) ss ≡ false
not_each a n [] le more = absurd (omega arith)
not_each a n (s ∷ ss) le more =
    ⊎_elim
    (λ longer. let rest = not_each (min a (length s.values)) n ss le (omega arith) in grind (arith, rest))
    (λ shorter. grind (arith, has-past s.values n shorter))
    (cases_lt n (length s.values))

-- ---- the sets

pub union_members : (ss : List Bits) (v : List Bool) → length v ≡ longest ss
    → ((i : ℕ) → i < longest ss → get_or v i false ≡ merged_at Union ss i false) → HasSome ss (elements v)
union_members ss v len values n =
    ⊎_elim
    (λ below. has-elements v n ∙ values n below ∙ some_merged n false ss)
    (λ past. has-past v n (omega (arith, past, len)) ∙ sym (none_past n ss (below_most 0 n ss past).1))
    (cases_lt n (longest ss))

pub union_lists : (ss : List Bits) (v : List Bool) → HasSome ss (elements v)
    → elements v ≡ union_all (map (λ s. elements s.values) ss)
union_lists ss v some =
    same_members (elements v) _ (IsAscending-elements v) (ascends-union_all [] (map (λ s. elements s.values) ss) tt)
    (λ n. some n ∙ sym (has-union_all [] n ss))

pub union_some : (ss : List Bits) (r : List ℕ) → HasSome ss r → (n : ℕ)
    → IsTrue (has r n) ↔ Any (λ s. IsTrue (has (elements s.values) n)) ss
union_some ss r some n = (
  λ is. Any-from_list_any (λ s. has (elements s.values) n) ss (sym (some n) ∙ is),
  λ any. some n ∙ list_any-from_Any (λ s. has (elements s.values) n) ss any,
)

pub intersection_members : (ss : List Bits) (v : List Bool) → length v ≡ shortest ss
    → ((i : ℕ) → i < shortest ss → get_or v i false ≡ merged_at Intersection ss i true) → HasEach ss (elements v)
intersection_members [] v len values = λ n. has-past v n (omega (arith, len))
intersection_members (s ∷ ss) v len values = λ n.
    ⊎_elim
    (λ below. has-elements v n ∙ values n below ∙ each_merged n true (s ∷ ss))
    (λ past.
    has-past v n (omega (arith, past, len))
    ∙ sym (⊎_elim
    (λ longer. let rest = not_each (length s.values) n ss past longer in grind (arith, rest))
    (λ shorter. grind (arith, has-past s.values n shorter))
    (cases_lt n (length s.values))))
    (cases_lt n (shortest (s ∷ ss)))

pub intersection_lists : (ss : List Bits) (v : List Bool) → HasEach ss (elements v)
    → elements v ≡ intersection_all (map (λ s. elements s.values) ss)
intersection_lists [] v each = none_from_members (elements v) each
intersection_lists (s ∷ ss) v each =
    same_members (elements v) _ (IsAscending-elements v)
    (ascends-intersection_all (elements s.values) (map (λ t. elements t.values) ss)
    (IsAscending-elements s.values)) (λ n. each n ∙ sym (has-intersection_all (elements s.values) n ss))

pub intersection_each : (ss : List Bits) (r : List ℕ) → HasEach ss r → ss ≢ [] → (n : ℕ)
    → IsTrue (has r n) ↔ All (λ s. IsTrue (has (elements s.values) n)) ss
intersection_each [] r each some n = absurd (some refl)
intersection_each (s ∷ ss) r each some n = (
  λ is. AllPass-from_list_all (λ s. has (elements s.values) n) (s ∷ ss) (sym (each n) ∙ is),
  λ all. each n ∙ list_all-from_AllPass (λ s. has (elements s.values) n) (s ∷ ss) all,
)
