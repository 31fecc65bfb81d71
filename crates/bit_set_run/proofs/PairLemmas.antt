-- A set of the array is changed by another, which is taken out meanwhile.
use Rattle.std.proofs.Common.{◌≡◌, ℕ, ◌<◌, List, [], length, get_or, map, set, refl, sym, subst, ap, ◌∙◌, ne_eqb}
use Rattle.std.proofs.lemmas.List.{set-set, set-get_or, map-set, get_or-map, get_or-set_other, get_or_default, set_comm}
use Rattle.bit_set.specs.Bits.{Bits}
use Rattle.bit_set_commands.specs.declared.commands.Command.{Command}
use Rattle.bit_set_run.specs.Capacities.{bits_at, ChangesCapacities, KeepsCapacities, PairCapacities}
use Rattle.bit_set_run.specs.{Elements.elements_of, Pairs.{command_of, pair_after, MayAsk}, Run.{step, FailsAt}}
use Rattle.bit_set_run.specs.declared.pairs.PairChange.{PairChange}

-- what was read at a place is the set there
pub read_at : (sets : List Bits) (place : ℕ) (set_read : Bits) → place < length sets → set_read ≡ get_or sets place set_read → set_read ≡ bits_at sets place
read_at sets place set_read within is = is ∙ get_or_default sets place set_read record { values = []; capacity = 0 } within

-- the same where another set was taken out
pub read_beside : (sets : List Bits) (place gone_from : ℕ) (gone set_read : Bits) → place < length sets → (place ≡ gone_from → ⊥) → set_read ≡ get_or (set sets gone_from gone) place set_read → set_read ≡ bits_at sets place
read_beside sets place gone_from gone set_read within apart is =
    read_at sets place set_read within (is ∙ get_or-set_other sets gone_from place gone set_read apart)

-- a set of the array is changed while another was taken out, and that one is put back
pub put_back_beside : (sets : List Bits) (to from : ℕ) (gone set_now other_now : Bits) → (to ≡ from → ⊥) → set (set (set sets from gone) to set_now) from other_now ≡ set (set sets to set_now) from other_now
put_back_beside sets to from gone set_now other_now apart =
    ap (λ l. set l from other_now) (set_comm sets from to gone set_now (λ e. apart (sym e))) ∙ set-set (set sets to set_now) from gone other_now

-- both are as they were
pub put_back_both : (sets : List Bits) (to from : ℕ) (gone set_now other_now : Bits) → (to ≡ from → ⊥) → set_now ≡ get_or (set sets from gone) to set_now → other_now ≡ get_or sets from other_now → set (set (set sets from gone) to set_now) from other_now ≡ sets
put_back_both sets to from gone set_now other_now apart was is =
    let there : set_now ≡ get_or sets to set_now = was ∙ get_or-set_other sets from to gone set_now apart in
    let one : set sets to set_now ≡ sets = ap (λ s. set sets to s) there ∙ set-get_or sets to set_now in
    let two : set sets from other_now ≡ sets = ap (λ s. set sets from s) is ∙ set-get_or sets from other_now in
    put_back_beside sets to from gone set_now other_now apart ∙ ap (λ l. set l from other_now) one ∙ two

-- the elements of the set at a place
elements_at : (sets : List Bits) (place : ℕ) → place < length sets → elements_of (bits_at sets place) ≡ get_or (map elements_of sets) place []
elements_at sets place within = sym (get_or-map elements_of sets place record { values = []; capacity = 0 } [] within)

-- two sets of the array become these
both_are : (sets : List Bits) (s t : ℕ) (first second : Bits) (first_is second_is : List ℕ) → elements_of first ≡ first_is → elements_of second ≡ second_is → map elements_of (set (set sets s first) t second) ≡ set (set (map elements_of sets) s first_is) t second_is
both_are sets s t first second first_is second_is one two =
    map-set elements_of (set sets s first) t second
    ∙ ap (λ l. set l t (elements_of second)) (map-set elements_of sets s first ∙ ap (λ x. set (map elements_of sets) s x) one)
    ∙ ap (λ x. set (set (map elements_of sets) s first_is) t x) two

-- the second is as it was
second_stays : (sets : List Bits) (to from : ℕ) (first second : Bits) → (to ≡ from → ⊥) → from < length sets → second ≡ bits_at sets from → set (set sets to first) from second ≡ set sets to first
second_stays sets to from first second apart within is =
    ap (λ s. set (set sets to first) from s) (is ∙ get_or_default sets from _ second within ∙ sym (get_or-set_other sets to from first second (λ e. apart (sym e))))
    ∙ set-get_or (set sets to first) from second

-- the first alone becomes this
first_is : (sets : List Bits) (to from : ℕ) (first second : Bits) (first_now : List ℕ) → (to ≡ from → ⊥) → from < length sets → second ≡ bits_at sets from → elements_of first ≡ first_now → map elements_of (set (set sets to first) from second) ≡ set (map elements_of sets) to first_now
first_is sets to from first second first_now apart within is one =
    ap (map elements_of) (second_stays sets to from first second apart within is) ∙ map-set elements_of sets to first
    ∙ ap (λ x. set (map elements_of sets) to x) one

-- these are the sets after a command that succeeded
pub record HasDone (w : ℕ) (old : List Bits) (command : Command) (new : List Bits) : Type 0 where
  pub sets : map elements_of new ≡ (step (map elements_of old) command).sets
  pub capacities : ChangesCapacities w old command new

-- a set was changed by another
done_with_elements :
    (w : ℕ) (sets : List Bits) (change : PairChange) (to from : ℕ) (first second : Bits)
    → (to ≡ from → ⊥) → from < length sets
    → elements_of first ≡ (pair_after change (get_or (map elements_of sets) to []) (get_or (map elements_of sets) from [])).0
    → elements_of second ≡ (pair_after change (get_or (map elements_of sets) to []) (get_or (map elements_of sets) from [])).1
    → PairCapacities w change (bits_at sets to) (bits_at sets from) first second
    → HasDone w sets (command_of change to from) (set (set sets to first) from second)
done_with_elements w sets PairChange.Copy to from first second apart within one two pair =
    let other = ne_eqb from to (λ e. apart (sym e)) in
    record {
      sets = rw other (first_is sets to from first second _ apart within pair.1 one);
      capacities = rw other (first, second_stays sets to from first second apart within pair.1, pair.0);
    }
done_with_elements w sets (PairChange.Merge merge) to from first second apart within one two pair =
    let other = ne_eqb to from apart in
    record {
      sets = rw other (first_is sets to from first second _ apart within pair.1 one);
      capacities = rw other (first, second_stays sets to from first second apart within pair.1, pair.0);
    }
done_with_elements w sets PairChange.Append to from first second apart within one two pair =
    let other = ne_eqb to from apart in
    record {
      sets = rw other (both_are sets to from first second _ _ one two);
      capacities = rw other (first, second, refl, pair.0, pair.1);
    }
done_with_elements w sets (PairChange.SplitOff n) to from first second apart within one two pair =
    let other = ne_eqb to from apart in
    record {
      sets = rw other (both_are sets to from first second _ _ one two);
      capacities = rw other (first, second, refl, pair.0, pair.1);
    }

-- the same, both as they were read
pub done_with :
    (w : ℕ) (sets : List Bits) (change : PairChange) (to from : ℕ) (set_read other_read first second : Bits)
    → (to ≡ from → ⊥) → to < length sets → from < length sets
    → set_read ≡ bits_at sets to → other_read ≡ bits_at sets from
    → elements_of first ≡ (pair_after change (elements_of set_read) (elements_of other_read)).0
    → elements_of second ≡ (pair_after change (elements_of set_read) (elements_of other_read)).1
    → PairCapacities w change set_read other_read first second
    → HasDone w sets (command_of change to from) (set (set sets to first) from second)
done_with w sets change to from set_read other_read first second apart there within set_is other_is one two pair =
    let become : pair_after change (elements_of set_read) (elements_of other_read)
    ≡ pair_after change (get_or (map elements_of sets) to []) (get_or (map elements_of sets) from []) =
    ap (λ s. pair_after change s (elements_of other_read)) (ap elements_of set_is ∙ elements_at sets to there)
    ∙ ap (pair_after change (get_or (map elements_of sets) to [])) (ap elements_of other_is ∙ elements_at sets from within) in
    done_with_elements w sets change to from first second
    apart within (one ∙ ap (λ p. p.0) become) (two ∙ ap (λ p. p.1) become)
    (subst (λ t. PairCapacities w change (bits_at sets to) t first second) other_is
    (subst (λ s. PairCapacities w change s other_read first second) set_is pair))

-- without memory it changes nothing
pub refused_with :
    (sets : List Bits) (change : PairChange) (to from : ℕ) → (to ≡ from → ⊥) → MayAsk change
    → FailsAt (map elements_of sets) (command_of change to from) (map elements_of sets)
    × KeepsCapacities sets (command_of change to from) sets
refused_with sets PairChange.Copy to from apart may = (((λ e. apart (sym e)), refl), refl)
refused_with sets (PairChange.Merge merge) to from apart may = ((apart, refl), refl)
refused_with sets PairChange.Append to from apart may = ((apart, refl), refl)
refused_with sets (PairChange.SplitOff n) to from apart may = ((apart, may, refl), refl)
