use Rattle.std.proofs.Common.{◌≡◌, length, sym, ap, ◌∙◌, subst, arith}
use Rattle.set_algebra.{specs.{Choices.IsLastOf, Sets.elements}, proofs.{EndLemmas.greatest_of_all, SplitLemmas.all_below, ValueLemmas.has-within}}
use Rattle.bit_set.proofs.set.BitSet.last.Goals as goal

pub returns-clause-elements : goal.returns-clause-elements
returns-clause-elements g c =
    let values = c.args.self.now.values in
    let long : c.len.result ≡ length values = c.len.ensures.value ∙ ap (λ v. length v.values) c.self.view_is in
    subst (λ s. IsLastOf s c.previous.result) (sym (all_below values c.len.result (omega (arith, long)))) c.previous.ensures.elements

pub returns-clause-members : goal.returns-clause-members
returns-clause-members g c =
    let values = c.args.self.now.values in
    let long : c.len.result ≡ length values = c.len.ensures.value ∙ ap (λ v. length v.values) c.self.view_is in
    greatest_of_all (elements values) c.len.result _ (λ m is. omega (arith, has-within values m is, long)) c.previous.ensures.members
