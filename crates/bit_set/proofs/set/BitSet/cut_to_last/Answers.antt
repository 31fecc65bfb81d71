use Rattle.std.proofs.Common.{◌≡◌, length, take, max, length-take, ap, ◌∙◌, arith, rules}
use Rattle.set_algebra.{specs.Sets.{bound_of, elements}, proofs.MemberLemmas.none_from_members}
use Rattle.bit_set.proofs.ItemLemmas.{bound-elements, bound_of_greatest, elements-cut}
use Rattle.bit_set.proofs.set.BitSet.cut_to_last.Goals.{in-Some, in-None}
use Rattle.bit_set.proofs.set.BitSet.cut_to_last.Goals as goal

-- the length to which it is cut
reach : (g : _) (c : goal.After-truncate g) → c.match-last.len ≡ max c.args.least (bound_of (elements c.args.self.now.values))
reach g c =
    let s = elements c.args.self.now.values in
    elim c.match-last.branch [
      | in-Some w ↦ omega (arith, w.len-is, w.max-len.ensures, bound_of_greatest s w.in-Some.last w.in-Some.ensures.members)
      | in-None w ↦ omega (arith, w.len-is, ap bound_of (none_from_members s w.in-None.ensures.members))
    ]

cut : (g : _) (c : goal.After-truncate g) → c.truncate.new.self.values ≡ take c.match-last.len c.args.self.now.values
cut g c = c.truncate.ensures.values ∙ ap (λ bits. take c.match-last.len bits.values) c.self.view_is

pub returns-clause-kept : goal.returns-clause-kept
returns-clause-kept g c = record { members = rw (cut g c) (elements-cut c.args.self.now.values c.match-last.len (omega (arith, reach g c))); capacity = search rules }

pub returns-clause-length : goal.returns-clause-length
returns-clause-length g c =
    let old = c.args.self.now.values in
    omega (arith, ap length (cut g c), length-take c.match-last.len old, reach g c, c.requires, bound-elements old)
