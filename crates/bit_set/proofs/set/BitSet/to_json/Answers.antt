use Rattle.std.proofs.{Common.{◌≡◌, ap, ◌∙◌, length, map}, lemmas.Result.IfOk-weaker}
use Rattle.serde_json.specs.View.{view}
use Rattle.bit_blocks.specs.Bits.{blocks_of}
use Rattle.bit_set.proofs.JsonLemmas.{written_spells}
use Rattle.bit_set.proofs.set.BitSet.to_json.Goals as goal

pub returns : goal.returns
returns g c =
    let w = g.B.BitBlock.width in
    let values = c.args.self.now.values in
    let blocks : map g.B.BitBlock.number c.storage.result.now ≡ blocks_of w values = c.storage.ensures.numbers ∙ ap (λ bits. blocks_of w bits.values) c.get_ref-bits.ensures in
    let long : c.len.result ≡ length values = c.len.ensures.value ∙ ap (λ bits. length bits.values) c.get_ref-bits.ensures in
    IfOk-weaker c.form.result _ _
    (λ value form. written_spells w (view value) c.in_ok-storage.storage.items (map g.B.BitBlock.number c.storage.result.now) values c.len.result blocks long c.in_ok-storage.ensures form)
    c.form.ensures
