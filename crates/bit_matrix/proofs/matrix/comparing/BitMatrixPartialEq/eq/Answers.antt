use Rattle.std.proofs.{Common.{◌≡◌, ◌↔◌, ℕ, IsTrue, map, get_or, sym, ap, ◌∙◌, length}, lemmas.Bool.{false≢true}}
use Rattle.bit_matrix.proofs.{CompareLemmas.{same_tables, tells_bits, tells_same}, SeenLemmas.{seen_matrix, seen_rows}}
use Rattle.bit_matrix.proofs.matrix.comparing.BitMatrixPartialEq.eq.Goals as goal

pub returns-then-self-other-clause-same : goal.returns-then-self-other-clause-same
returns-then-self-other-clause-same g c =
    let pos = g.met.B.BitBlock.width_law.positive in
    (λ yes. absurd (false≢true yes), λ same. absurd (c.if-self-other.true (sym (seen_rows pos c.self.invariant c.self.view_is) ∙ ap (λ m. length m.rows) same ∙ seen_rows pos c.other.invariant c.other.view_is)))

pub returns-then-self-other-clause-tells : goal.returns-then-self-other-clause-tells
returns-then-self-other-clause-tells g c = tells_same _ c.args.self.now c.args.other.now (returns-then-self-other-clause-same g c)

pub returns-then-self-other-clause-members : goal.returns-then-self-other-clause-members
returns-then-self-other-clause-members g c =
    let pos = g.met.B.BitBlock.width_law.positive in
    tells_bits _ c.args.self.now c.args.other.now (seen_matrix pos c.self.invariant c.self.view_is) (seen_matrix pos c.other.invariant c.other.view_is) (returns-then-self-other-clause-same g c)

pub returns-clause-same : goal.returns-clause-same
returns-clause-same g c =
    let f = g.B.BitBlock.number in
    let blocks : IsTrue c.same_blocks.result ↔ ((k : ℕ)
    → get_or (map f c.self.inside.blocks.items) k 0 ≡ get_or (map f c.other.inside.blocks.items) k
    0) = rw (c.deref.ensures.value, c.deref-2.ensures.value) at c.same_blocks.ensures in
    let tables = same_tables g.met.B.BitBlock.width_law.positive c.self.invariant c.self.view_is c.other.invariant
    c.other.view_is (sym c.if-self-other.false) (sym c.if-self-other-2.false) (λ x is. (g.met.B.BitBlock.number_law x is).0) in
    (λ yes. tables.0 (blocks.0 yes), λ same. blocks.1 (tables.1 same))

pub returns-clause-tells : goal.returns-clause-tells
returns-clause-tells g c = tells_same c.same_blocks.result c.args.self.now c.args.other.now (returns-clause-same g c)

pub returns-clause-members : goal.returns-clause-members
returns-clause-members g c =
    let pos = g.met.B.BitBlock.width_law.positive in
    tells_bits c.same_blocks.result c.args.self.now c.args.other.now (seen_matrix pos c.self.invariant c.self.view_is) (seen_matrix pos c.other.invariant c.other.view_is) (returns-clause-same g c)
