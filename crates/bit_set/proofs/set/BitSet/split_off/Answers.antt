use Rattle.std.proofs.Common.{◌≡◌, ℕ, ◌<◌, ◌≤◌, ◌++◌, Bool, false, if◌then◌else◌, nat_lt, List, length, length-append, replicate, drop, refl, arith}
use Rattle.std.proofs.lemmas.{Bool.Decides.nat_tests, List.{length-drop, length-replicate}}
use Rattle.set_algebra.{specs.Sets.elements, proofs.{MemberLemmas.{members_below, members_from}, SplitLemmas.{all_below, all_from, elements-tail, none_below, none_from}}}
use Rattle.bit_set.{proofs.set.BitSet.split_off.Goals.After-new_general-then-at-len, specs.Changes.Changes}
use Rattle.bit_set.proofs.set.BitSet.split_off.Goals as goal

-- how long the part is
part-length : (bs : List Bool) (n : ℕ) → n < length bs → length (replicate n false ++ drop n bs) ≡ (if nat_lt n (length bs) then length bs else 0)
part-length bs n some = grind (arith, nat_tests, some, length-append (replicate n false) (drop n bs), length-replicate n false, length-drop n bs)

-- the place is past the list
past : (g : _) (c : After-new_general-then-at-len g) → length c.args.self.now.values ≤ c.args.at
past g c = rw (← c.self.view_is) (omega arith)

pub returns-then-at-eq0-clause-elements : goal.returns-then-at-eq0-clause-elements
returns-then-at-eq0-clause-elements g c = rw (c.if-at-eq0.true, c.replace.ensures.after, c.new_general.ensures.values) (none_below c.args.self.now.values)

pub returns-then-at-eq0-clause-part : goal.returns-then-at-eq0-clause-part
returns-then-at-eq0-clause-part g c = rw (c.if-at-eq0.true, c.replace.ensures.value) (all_from c.args.self.now.values)

pub returns-then-at-len-clause-elements : goal.returns-then-at-len-clause-elements
returns-then-at-len-clause-elements g c = all_below c.args.self.now.values c.args.at (past g c)

pub returns-then-at-len-clause-part : goal.returns-then-at-len-clause-part
returns-then-at-len-clause-part g c = rw c.new_general-then-at-len.ensures.values (none_from c.args.self.now.values c.args.at (past g c))

pub returns-clause-part : goal.returns-clause-part
returns-clause-part g c = rw (c.in_ok-bits.ensures.values, ← c.self.view_is) (elements-tail c.self.inside.bits.values c.args.at)

pub returns-then-at-eq0-clause-changes : goal.returns-then-at-eq0-clause-changes
unfolding Changes
returns-then-at-eq0-clause-changes g c = (returns-then-at-eq0-clause-elements g c, refl)

pub returns-then-at-len-clause-changes : goal.returns-then-at-len-clause-changes
unfolding Changes
returns-then-at-len-clause-changes g c = (returns-then-at-len-clause-elements g c, refl)

pub returns-then-at-len-clause-members : goal.returns-then-at-len-clause-members
returns-then-at-len-clause-members g c = members_below (elements c.args.self.now.values) c.args.at (returns-then-at-len-clause-elements g c)

pub returns-then-at-len-clause-part_members : goal.returns-then-at-len-clause-part_members
returns-then-at-len-clause-part_members g c = members_from (elements c.args.self.now.values) c.args.at (returns-then-at-len-clause-part g c)

pub returns-clause-part_members : goal.returns-clause-part_members
returns-clause-part_members g c = members_from (elements c.args.self.now.values) c.args.at (returns-clause-part g c)

pub returns-then-at-eq0-clause-members : goal.returns-then-at-eq0-clause-members
returns-then-at-eq0-clause-members g c = members_below (elements c.args.self.now.values) c.args.at (returns-then-at-eq0-clause-elements g c)

pub returns-then-at-eq0-clause-part_members : goal.returns-then-at-eq0-clause-part_members
returns-then-at-eq0-clause-part_members g c = members_from (elements c.args.self.now.values) c.args.at (returns-then-at-eq0-clause-part g c)

pub returns-then-at-eq0-clause-part_length : goal.returns-then-at-eq0-clause-part_length
returns-then-at-eq0-clause-part_length g c = rw c.replace.ensures.value (grind (arith, nat_tests, c.if-at-eq0.true))

pub returns-then-at-len-clause-part_length : goal.returns-then-at-len-clause-part_length
returns-then-at-len-clause-part_length g c = rw c.new_general-then-at-len.ensures.values (grind (arith, nat_tests, past g c))

pub returns-clause-elements : goal.returns-clause-elements
returns-clause-elements g c = c.truncate.ensures.elements

pub returns-clause-changes : goal.returns-clause-changes
unfolding Changes
returns-clause-changes g c = (c.truncate.ensures.elements, refl)

pub returns-clause-members : goal.returns-clause-members
returns-clause-members g c = c.truncate.ensures.members

pub returns-clause-length : goal.returns-clause-length
returns-clause-length g c = c.truncate.ensures.length

pub returns-clause-capacity : goal.returns-clause-capacity
returns-clause-capacity g c _ = c.truncate.ensures.capacity

pub returns-clause-exact : goal.returns-clause-exact
returns-clause-exact g c _ _ = rw (← c.self.view_is) c.in_ok-bits.ensures.capacity

pub returns-then-at-eq0-clause-length : goal.returns-then-at-eq0-clause-length
returns-then-at-eq0-clause-length g c = rw (c.replace.ensures.after, c.new_general.ensures.values) (omega (arith, c.if-at-eq0.true))

pub returns-then-at-len-clause-length : goal.returns-then-at-len-clause-length
returns-then-at-len-clause-length g c = omega (arith, past g c)

pub returns-then-at-len-clause-exact : goal.returns-then-at-len-clause-exact
returns-then-at-len-clause-exact g c _ inside = absurd (omega (arith, past g c, inside))

pub returns-then-at-len-clause-nothing : goal.returns-then-at-len-clause-nothing
returns-then-at-len-clause-nothing g c _ _ = c.new_general-then-at-len.ensures.capacity

pub returns-clause-part_length : goal.returns-clause-part_length
returns-clause-part_length g c =
    rw (c.in_ok-bits.ensures.values, ← c.self.view_is) (part-length c.self.inside.bits.values c.args.at (omega (arith, c.len.ensures.value, c.if-at-len.false)))

pub returns-clause-inside : goal.returns-clause-inside
returns-clause-inside g c = tt

pub returns-clause-err : goal.returns-clause-err
returns-clause-err g c = tt

pub returns-clause-whole : goal.returns-clause-whole
returns-clause-whole g c = λ none. absurd (omega (arith, none, c.if-at-eq0.false))

pub returns-clause-given : goal.returns-clause-given
returns-clause-given g c = λ none. absurd (omega (arith, none, c.if-at-eq0.false))

pub returns-clause-start : goal.returns-clause-start
returns-clause-start g c = λ _. refl

pub returns-clause-end : goal.returns-clause-end
returns-clause-end g c = λ _. refl
