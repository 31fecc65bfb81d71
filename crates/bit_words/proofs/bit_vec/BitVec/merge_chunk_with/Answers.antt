use Rattle.std.proofs.{Common.{◌≡◌, ◌*◌, ◌<◌, ◌≤◌, ◌++◌, false, true, length, drop, take, ap, sym, ◌∙◌, arith, mul-le-mul_right}, lemmas.{Bool.true≢false, List.take_at}}
use Rattle.bit_blocks.specs.Merges.{merge_of_values}
use Rattle.bit_blocks.proofs.{BitsLemmas.blocks_for-enough, VectorLemmas.length_from_view}
use Rattle.bit_words.proofs.{ChunkLemmas.{chunk_kept, chunk_packed, chunk_values}, KeepLemmas.block_inside, StartLemmas.false_before_none}
use Rattle.bit_words.proofs.bit_vec.BitVec.merge_chunk_with.{Given.Over, Goals.{After-merge_chosen_in_chunk, After-self}}
use Rattle.bit_words.proofs.bit_vec.BitVec.merge_chunk_with.Goals as goal

-- the chunk has a block
inside : (g : Over) (c : After-self g) → c.args.chunk * g.B.BitBlock.width < length c.self.inside.blocks.items
inside g c =
    let w = g.B.BitBlock.width in
    block_inside w (c.args.chunk * w) c.self.inside.len g.B.BitBlock.number g.B.BitBlock.is_block c.self.inside.blocks.items g.met.B.BitBlock.width_law.positive c.self.invariant.packed
    (rw (length_from_view _ _ _ _ _ c.self.view_is) at c.requires.some)

pub overflow_mul-chunk : goal.overflow_mul-chunk
overflow_mul-chunk g c =
    let here = inside g (goal.at.overflow_mul-chunk g c).After-self in
    let at : c.args.chunk * c.bits.result ≡ c.args.chunk * g.B.BitBlock.width = ap (λ b. c.args.chunk * b) c.bits.ensures in
    omega (arith, here, at, c.len.ensures, c.self.inside.blocks.ok.0)

pub returns-then-count-chunk-clause-values : goal.returns-then-count-chunk-clause-values
returns-then-count-chunk-clause-values g c =
    let w = g.B.BitBlock.width in
    let pos = g.met.B.BitBlock.width_law.positive in
    let at : c.args.chunk * c.bits.result ≡ c.args.chunk * w = ap (λ b. c.args.chunk * b) c.bits.ensures in
    let here = inside g (goal.at.returns-then-count-chunk-clause-values g c).After-self in
    let few : length c.other.inside.blocks.items ≤ c.args.chunk * w =
    omega (arith, here, at, c.min-count.ensures, c.len.ensures, c.len-2.ensures, c.self.inside.blocks.ok.0, c.other.inside.blocks.ok.0, c.if-count-chunk.true) in
    let enough : length c.args.other.now.values ≤ length c.other.inside.blocks.items * w =
    omega (arith, blocks_for-enough w c.other.inside.len pos, ap (λ k. k * w) c.other.invariant.packed.count, length_from_view _ _ _ _ _ c.other.view_is) in
    chunk_kept c.args.merge _ _ _ _ (λ is. true≢false (sym c.if-ne.true ∙ rw is at c.ne.ensures)) (omega (arith, enough, mul-le-mul_right w few))

pub merge_chosen_in_chunk-requires-clause-some : goal.merge_chosen_in_chunk-requires-clause-some
merge_chosen_in_chunk-requires-clause-some g c = rw c.as_mut_slice.ensures.value (inside g (goal.at.merge_chosen_in_chunk-requires-clause-some g c).After-self)

-- the other is longer only where the merge leaves false what is so
never_longer : (g : Over) (c : After-merge_chosen_in_chunk g) → c.self.inside.len < c.other.inside.len → merge_of_values c.args.merge false true ≡ false
never_longer g c longer = c.requires.fits (omega (arith, longer, length_from_view _ _ _ _ _ c.self.view_is, length_from_view _ _ _ _ _ c.other.view_is))

pub invariant_of-self : goal.invariant_of-self
invariant_of-self g c =
    let ys = c.merge_chosen_in_chunk.new.blocks in
    let summary = c.merge_chosen_in_chunk.new.summary in
    let old = c.self.inside.blocks in
    let old_summary = c.self.inside.summary in
    let back : take old.len (ys ++ drop (length ys) old.items) ≡ ys = take_at ys _ old.len (omega arith) in
    let back_summary : take old_summary.len (summary ++ drop (length summary) old_summary.items) ≡ summary = take_at summary _ old_summary.len (omega arith) in
    rw (back, back_summary) (record {
      packed = chunk_packed c.args.merge g.B.BitBlock.width _ _ c.self.inside.len c.other.inside.len c.min-count.result
          g.B.BitBlock.number g.B.BitBlock.is_block old.items c.other.inside.blocks.items ys g.met.B.BitBlock.width_law.positive
          c.self.invariant.packed c.other.invariant.packed
          (omega (arith, c.min-count.ensures, c.len.ensures, c.len-2.ensures, old.ok.0, c.other.inside.blocks.ok.0))
          (never_longer g (goal.at.invariant_of-self g c).After-merge_chosen_in_chunk) (rw (c.as_mut_slice.ensures.value, c.deref.ensures.value) at c.merge_chosen_in_chunk.ensures.has);
      summary = c.merge_chosen_in_chunk.ensures.summary;
      start = λ _. false_before_none _ _;
    })

pub returns-clause-values : goal.returns-clause-values
returns-clause-values g c =
    let ys = c.merge_chosen_in_chunk.new.blocks in
    let old = c.self.inside.blocks in
    let back : take old.len (ys ++ drop (length ys) old.items) ≡ ys = take_at ys _ old.len (omega arith) in
    rw back
    (chunk_values c.args.merge g.B.BitBlock.width _ _ c.self.inside.len c.other.inside.len c.min-count.result
    g.B.BitBlock.number g.B.BitBlock.is_block old.items c.other.inside.blocks.items ys g.met.B.BitBlock.width_law.positive
    c.self.invariant.packed c.other.invariant.packed
    (omega (arith, c.min-count.ensures, c.len.ensures, c.len-2.ensures, old.ok.0, c.other.inside.blocks.ok.0))
    (never_longer g (goal.at.returns-clause-values g c).After-merge_chosen_in_chunk)
    (rw (c.as_mut_slice.ensures.value, c.deref.ensures.value) at c.merge_chosen_in_chunk.ensures.has) _ _ _ _ c.self.view_is
    c.other.view_is)
