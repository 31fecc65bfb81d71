use Rattle.std.{proofs.Common.{◌≡◌, ℕ, ◌<◌, List, [], ◌∷◌, ◌++◌, refl, ap, arith, ◌∙◌}, specs.Cmp.{Equal-is, Lexicographic.{bytes_decides, nat_list_cmp_total, nat_list_eq_equiv, texts_ties}}}
use Rattle.std.specs.declared.cmp.Ordering.TheVariants.{Less}
use Rattle.set_algebra.{specs.Order.{order_of_sets, fed_of_set}, proofs.OrderLemmas.{order-cons, order-first}}
use Rattle.set_algebra.proofs.laws.sets_compare.Goals as goal

goes_on : (front s t : List ℕ) (x y : ℕ) → x < y → order_of_sets (front ++ x ∷ s) (front ++ y ∷ t) ≡ Less
goes_on [] s t x y below = order-first x y s t below
goes_on (z ∷ front) s t x y below = order-cons z (front ++ x ∷ s) (front ++ y ∷ t) ∙ goes_on front s t x y below

ends : (front s : List ℕ) (x : ℕ) → order_of_sets front (front ++ x ∷ s) ≡ Less
ends [] s x = refl
ends (z ∷ front) s x = order-cons z front (front ++ x ∷ s) ∙ ends front s x

pub returns : goal.returns
returns c = record {
  same = bytes_decides;
  equivalence = nat_list_eq_equiv;
  total = nat_list_cmp_total;
  equal = λ s t. grind (arith, texts_ties s t, Equal-is (order_of_sets s t));
  goes_on = goes_on;
  ends = ends;
  no_subsets_first = refl;
  fed = λ s t same. ap fed_of_set ((bytes_decides s t).0 same);
}
