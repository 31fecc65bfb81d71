use Rattle.std.proofs.{Common.{◌*◌, ◌++◌, All, length, map, refl, subst, ap, ◌∙◌, rules}, lemmas.List.{length-map}}
use Rattle.bit_matrix.proofs.{PartLemmas.{is_put}, StripLemmas.{all_put, rows_transposed}}
use Rattle.bit_matrix.proofs.squares.transpose_into.Goals as goal

pub returns-clause-transposed : goal.returns-clause-transposed
returns-clause-transposed g c =
    let w = g.B.BitBlock.width in
    let f = g.B.BitBlock.number in
    let front = c.split_at_mut-back.result.0.now in
    let strip = c.split_at_mut-strip.result.0.now in
    let whole = c.split_at_mut-back.ensures.value ∙ ap (λ ys. front ++ ys) c.split_at_mut-strip.ensures.value in
    let count = ap (λ n. n * c.args.width) c.bits.ensures in
    let here = c.split_at_mut-back.ensures.front_len ∙ ap (λ n. c.args.k * n) count in
    let long = length-map strip f ∙ c.split_at_mut-strip.ensures.front_len ∙ count in
    rw whole (rows_transposed w c.args.width c.args.stride c.args.k (length front) (map f c.args.others.now) (map f strip)
    (map f c.transpose_strip.new.strip) _ _ here long
    (is_put f front strip c.transpose_strip.new.strip c.split_at_mut-strip.result.1.now (length front)
    (refl) c.transpose_strip.ensures.written.len) c.transpose_strip.ensures.transposed)

pub returns-clause-written : goal.returns-clause-written
returns-clause-written g c =
    let P = g.B.BitBlock.is_block in
    let whole = c.split_at_mut-back.ensures.value ∙ ap (λ ys. c.split_at_mut-back.result.0.now ++ ys) c.split_at_mut-strip.ensures.value in
    let all : All P (c.split_at_mut-back.result.0.now ++ (c.split_at_mut-strip.result.0.now ++ c.split_at_mut-strip.result.1.now)) = subst (λ xs. All P xs) whole c.requires.each in
    record {
      each = all_put P c.split_at_mut-back.result.0.now c.split_at_mut-strip.result.0.now c.transpose_strip.new.strip c.split_at_mut-strip.result.1.now all c.transpose_strip.ensures.written.each;
      len = search rules;
    }
