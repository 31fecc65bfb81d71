use Rattle.std.proofs.{Common.{◌+◌, ◌*◌, ◌≤◌, length, arith}, lemmas.List.length-map}
use Rattle.bit_blocks.proofs.VectorLemmas.{length_from_view}
use Rattle.bit_words.proofs.PutLemmas.{put_packed, put_start, put_values, put_within}
use Rattle.bit_words.proofs.bit_vec.BitVec.put_blocks.{Given.Over, Goals.After-self}
use Rattle.bit_words.proofs.bit_vec.BitVec.put_blocks.Goals as goal

-- the list reaches as far as the blocks
reaches : (g : Over) (c : After-self g) → (c.args.from + length c.args.blocks.now) * g.B.BitBlock.width ≤ c.self.inside.len
reaches g c = omega (arith, c.requires.within, length_from_view _ _ _ _ _ c.self.view_is)

pub put_span-requires-clause-within : goal.put_span-requires-clause-within
put_span-requires-clause-within g c =
    put_within _ _ _ _ _ c.self.inside.blocks g.met.B.BitBlock.width_law.positive (reaches g (goal.at.put_span-requires-clause-within g c).After-self) c.self.invariant.packed

pub invariant_of-self : goal.invariant_of-self
invariant_of-self g c =
    let w = g.B.BitBlock.width in
    let pos = g.met.B.BitBlock.width_law.positive in
    let put = c.put_span.ensures.put in
    let in_place = c.put_span.ensures.in_place in
    let within = rw (← length-map c.args.blocks.now g.B.BitBlock.number) at (reaches g (goal.at.invariant_of-self g c).After-self) in
    record {
      packed = put_packed _ _ _ _ _ c.self.inside.blocks c.put_span.new.blocks _ pos within c.self.invariant.packed put in_place;
      summary = c.put_span.ensures.summary;
      start = λ many. rw (c.follow_one.ensures.value, c.block_index.ensures) (put_start w c.args.from _ _ _ pos put c.self.inside.search_start
          (c.self.invariant.start (omega (arith, many, in_place.len, c.self.inside.blocks.ok.0, c.put_span.new.blocks.ok.0))));
    }

pub returns-clause-values : goal.returns-clause-values
returns-clause-values g c =
    let within = rw (← length-map c.args.blocks.now g.B.BitBlock.number) at (reaches g (goal.at.returns-clause-values g c).After-self) in
    put_values g.B.BitBlock.width c.args.from _ _ _ g.met.B.BitBlock.width_law.positive c.put_span.ensures.put c.self.inside.len _ c.args.self.now c.self.view_is within c.self.invariant.packed.tail
