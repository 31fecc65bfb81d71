-- The text of a list of numbers, an item at a time.
use Rattle.std.proofs.Common.{◌≡◌, ◌≢◌, ℕ, zero, suc, ◌+◌, ◌/◌, ◌%◌, ◌<◌, ◌≤◌, Bool, true, false, ◌==◌, nat_lt, if◌then◌else◌, List, [], ◌∷◌, ◌++◌, length, take, get_or, ap, sym, ◌∙◌, refl, arith, append_assoc, append-nil}
use Rattle.std.proofs.{lemmas.Grind.flat_map-append, lemmas.List.take_more}
use Rattle.std.proofs.lemmas.List.Elements.{All-append, All-cons, All-nil}
use Rattle.std.specs.{Fmt.{digit_glyph, digits, digits_onto}, List.{flat_map, join_by}, Prelude.{codes, decimal}}
use Rattle.std.specs.declared.cmp.Ordering.TheVariants.{Less, Equal, Greater}
use Rattle.bit_set_commands.specs.{Cuts.Lacks, declared.commands.Reply.Reply, declared.reading.BadLine.BadLine}
use Rattle.bit_set_commands.specs.declared.commands.Reply.TheVariants.{Truth, Done, Number, Items, Order, Rest, Element, Same}
use Rattle.bit_set_commands.specs.declared.reading.BadLine.TheVariants.{BadCommand, BadNumber}
use Rattle.bit_set_commands.{specs.Texts.{items_text, text_of, text_of_bad}, proofs.CutLemmas.lacks_by_test}

-- one more item behind others
join_by-push : (f : ℕ → List ℕ) (sep : List ℕ) (y : ℕ) (ys : List ℕ) (x : ℕ) → join_by f sep ((y ∷ ys) ++ x ∷ []) ≡ join_by f sep (y ∷ ys) ++ (sep ++ f x)
join_by-push f sep y ys x =
    ap (λ zs. f y ++ zs) (flat_map-append (λ z. sep ++ f z) ys (x ∷ []) ∙ ap (λ zs. flat_map (λ z. sep ++ f z) ys ++ zs) (append-nil (sep ++ f x)))
    ∙ sym (append_assoc (f y) (flat_map (λ z. sep ++ f z) ys) (sep ++ f x))

-- the text so far, which begins with a `{`, then a comma and a space, and one more item
pub items_more : (out xs : List ℕ) (i : ℕ) → 0 < i → i < length xs → ((out ++ 123 ∷ join_by decimal (44 ∷ 32 ∷ []) (take i xs)) ++ 44 ∷ 32 ∷ []) ++ decimal (get_or xs i 0) ≡ out ++ 123 ∷ join_by decimal (44 ∷ 32 ∷ []) (take (i + 1) xs)
items_more out [] i some below = absurd (omega arith)
items_more out (x ∷ xs) zero some below = absurd (omega arith)
items_more out (x ∷ xs) (suc i) some below =
    rw (take_more (x ∷ xs) (suc i) 0 below, join_by-push decimal (44 ∷ 32 ∷ []) x (take i xs) (get_or (x ∷ xs) (suc i) 0))
    (simp append_assoc)

-- the first item
pub items_first : (out xs : List ℕ) (i : ℕ) → i ≤ 0 → i < length xs → (out ++ 123 ∷ join_by decimal (44 ∷ 32 ∷ []) (take i xs)) ++ decimal (get_or xs i 0) ≡ out ++ 123 ∷ join_by decimal (44 ∷ 32 ∷ []) (take (i + 1) xs)
items_first out [] i none below = absurd (omega arith)
items_first out (x ∷ xs) zero none below = simp (append_assoc, append-nil)
items_first out (x ∷ xs) (suc i) none below = absurd (omega arith)

-- No text of a reply has a byte 10 in it.
either : (b : Bool) (xs ys : List ℕ) → Lacks 10 xs → Lacks 10 ys → Lacks 10 (if b then xs else ys)
either true xs ys left right = left
either false xs ys left right = right

either_glyph : (b : Bool) (d : ℕ) → (if b then 48 + d else 87 + d) ≢ 10
either_glyph true d = λ e. absurd (omega arith)
either_glyph false d = λ e. absurd (omega arith)

digit_glyph-other : (d : ℕ) → digit_glyph false d ≢ 10
digit_glyph-other d = either_glyph (nat_lt d 10) d

digits_onto-lack : (k n : ℕ) (acc : List ℕ) → Lacks 10 acc → Lacks 10 (digits_onto k 10 false n acc)
digits_onto-lack zero n acc lacks = lacks
digits_onto-lack (suc k) n acc lacks =
    let more : Lacks 10 (digit_glyph false (n % 10) ∷ acc) = All-cons (λ x. x ≢ 10) (digit_glyph false (n % 10)) acc (digit_glyph-other (n % 10)) lacks in
    either (n / 10 == 0) (digit_glyph false (n % 10) ∷ acc) (digits_onto k 10 false (n / 10) (digit_glyph false (n % 10) ∷ acc)) more (digits_onto-lack k (n / 10) (digit_glyph false (n % 10) ∷ acc) more)

decimal-lacks : (n : ℕ) → Lacks 10 (decimal n)
unfolding digits
decimal-lacks n = digits_onto-lack 64 n [] (All-nil (λ b. b ≢ 10))

others_lack : (ns : List ℕ) → Lacks 10 (flat_map (λ n. (44 ∷ 32 ∷ []) ++ decimal n) ns)
others_lack [] = All-nil (λ b. b ≢ 10)
others_lack (n ∷ ns) =
    All-append (λ b. b ≢ 10) ((44 ∷ 32 ∷ []) ++ decimal n) (flat_map (λ m. (44 ∷ 32 ∷ []) ++ decimal m) ns)
    (All-append (λ b. b ≢ 10) (44 ∷ 32 ∷ []) (decimal n) (lacks_by_test 10 (44 ∷ 32 ∷ []) refl) (decimal-lacks n))
    (others_lack ns)

items_lack : (ns : List ℕ) → Lacks 10 (join_by decimal (44 ∷ 32 ∷ []) ns)
items_lack [] = All-nil (λ b. b ≢ 10)
items_lack (n ∷ ns) = All-append (λ b. b ≢ 10) (decimal n) (flat_map (λ m. (44 ∷ 32 ∷ []) ++ decimal m) ns) (decimal-lacks n) (others_lack ns)

items_text-lacks : (ns : List ℕ) → Lacks 10 (items_text ns)
items_text-lacks ns =
    All-append (λ b. b ≢ 10) (codes "{" ++ join_by decimal (codes ", ") ns) (codes "}")
    (All-append (λ b. b ≢ 10) (codes "{") (join_by decimal (codes ", ") ns) (lacks_by_test 10 (codes "{") refl) (items_lack ns))
    (lacks_by_test 10 (codes "}") refl)

pub text_of-lacks : (reply : Reply) → Lacks 10 (text_of reply)
text_of-lacks (Truth true) = lacks_by_test 10 (codes "true") refl
text_of-lacks (Truth false) = lacks_by_test 10 (codes "false") refl
text_of-lacks (Number n) = decimal-lacks n
text_of-lacks (Items ns) = items_text-lacks ns
text_of-lacks (Order Less) = lacks_by_test 10 (codes "Less") refl
text_of-lacks (Order Equal) = lacks_by_test 10 (codes "Equal") refl
text_of-lacks (Order Greater) = lacks_by_test 10 (codes "Greater") refl
text_of-lacks Done = lacks_by_test 10 (codes "ok") refl
text_of-lacks (Rest count ns) =
    All-append (λ b. b ≢ 10) (decimal count ++ codes " ") (items_text ns)
    (All-append (λ b. b ≢ 10) (decimal count) (codes " ") (decimal-lacks count) (lacks_by_test 10 (codes " ") refl)) (items_text-lacks ns)
text_of-lacks Same = lacks_by_test 10 (codes "refused same") refl
text_of-lacks Element = lacks_by_test 10 (codes "refused element") refl

pub text_of_bad-lacks : (bad : BadLine) → Lacks 10 (text_of_bad bad)
text_of_bad-lacks BadCommand = lacks_by_test 10 (codes "bad command") refl
text_of_bad-lacks BadNumber = lacks_by_test 10 (codes "bad number") refl
