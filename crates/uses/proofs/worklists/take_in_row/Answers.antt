use Rattle.std.proofs.{Common.{IsTrue, get_or, sym, arith}, lemmas.Bool.Decides.nat_tests, lemmas.List.get_or_read}
use Rattle.std.proofs.lemmas.Result.{on_ok_weaker}
use Rattle.bit_set.specs.{Bits.Bits, Members.{IsSubset, IsUnion}, Sets.{elements, has}}
use Rattle.uses.proofs.worklists.take_in_row.Goals as goal

pub returns-then-contains-clause-closed : goal.returns-then-contains-clause-closed
returns-then-contains-clause-closed g c =
    let row = c.index-rows-at.result in
    let new = elements c.union_changes.new.self.values in
    on_ok_weaker {Q = (d : Bits) → IsTrue (has new c.args.at) → IsSubset (elements (get_or c.args.rows.now c.args.at d).values) new} c.union_changes.result
    (λ (union : IsUnion (elements c.args.set.now.values) (elements row.values) new) d there.
    let read = get_or_read c.args.rows.now c.args.at row (omega arith) c.index-rows-at.is d in rw (sym read) (λ n is. grind (arith, nat_tests, union n)))
    c.union_changes.ensures.members

pub returns-then-contains-clause-count : goal.returns-then-contains-clause-count
returns-then-contains-clause-count g c = c.union_changes.ensures.count
