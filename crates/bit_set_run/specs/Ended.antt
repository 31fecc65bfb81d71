-- How a run over the lines of an input ends: what was read and what was written, at each outcome.
use Rattle.std.specs.{Io.KnownBytes.Appends, Prelude.{◌≡◌, ℕ, ◌+◌, List, Option, Result, Ok, Err}}
use Rattle.bit_set_run.specs.{Output.output, declared.streams.LinesFault.LinesFault}
use Rattle.bit_set_run.specs.declared.streams.LinesFault.TheVariants.{Read, TooLarge, Memory, Write}
use Rattle.bit_set_run.specs.Streams.{limit, GaveAll, GaveCount, GaveSome, GaveUntil, HoldsBeginning}

-- the reader gave an input, to its end, and its output was written and nothing else
pub record IsWritten (remaining remaining_after contents contents_after : Option (List ℕ)) : Type 0 where
  pub input : List ℕ
  pub read : GaveAll remaining remaining_after input
  pub written : Appends contents contents_after (output input)

-- the reader gave an input, to its end, and a beginning of its output was written
pub record IsCutOff (remaining remaining_after contents contents_after : Option (List ℕ)) : Type 0 where
  pub input : List ℕ
  pub read : GaveAll remaining remaining_after input
  pub written : HoldsBeginning contents contents_after (output input)

-- How it ended: what the reader gave, and what was done to the writer. They are seen as the bytes that the reader has
-- left and those that the writer holds, as far as they are known.
abbrev pub HasEnded :
    {W : Type 0} → Result Unit LinesFault → (remaining remaining_after : Option (List ℕ))
    → (contents : W → Option (List ℕ)) → (writer writer_after : W) → Type 0
HasEnded (Ok nothing) remaining remaining_after contents writer writer_after =
    IsWritten remaining remaining_after (contents writer) (contents writer_after)
HasEnded (Err Read) remaining remaining_after contents writer writer_after =
    GaveUntil remaining remaining_after limit × (writer_after ≡ writer)
HasEnded (Err TooLarge) remaining remaining_after contents writer writer_after =
    GaveCount remaining remaining_after (limit + 1) × (writer_after ≡ writer)
HasEnded (Err Memory) remaining remaining_after contents writer writer_after =
    GaveSome remaining remaining_after limit × (writer_after ≡ writer)
HasEnded (Err Write) remaining remaining_after contents writer writer_after =
    IsCutOff remaining remaining_after (contents writer) (contents writer_after)
