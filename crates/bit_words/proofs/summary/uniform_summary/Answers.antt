use Rattle.std.{proofs.Common.{◌≡◌, ℕ, ◌<◌, Bool, List, length, map, sym, ◌∙◌, Ok, Err, Result}, specs.Result.IfOk}
use Rattle.bit_blocks.specs.Storage.{value_at, IsPacked, is_used}
use Rattle.bit_words.{specs.Summary.{short_count, IsStoredSummary}, proofs.SummaryLemmas.{is_summary, keeps_all}}
use Rattle.bit_words.proofs.summary.uniform_summary.Goals as goal

-- a list that was made of one bit is the summary of blocks that are all alike
uniform : {V X E : Type 0} (items : V → List X) (w : ℕ) (f : X → ℕ) (P : X → Type 0) (xs : List X) (bit : Bool) (r : Result V E) → short_count w < length xs
    → ((k : ℕ) → k < length xs → is_used (map f xs) k ≡ bit) → IfOk r (λ made. (i : ℕ) → i < length xs → value_at w (map f (items made)) i ≡ bit)
    → IfOk r (λ made. IsPacked w f P (items made) (length xs)) → IfOk r (λ made. IsStoredSummary w f P xs (items made))
uniform items w f P xs bit (Ok made) long alike filled packed =
    keeps_all w f P xs (items made) long (is_summary w f P xs (items made) packed (λ k within. filled k within ∙ sym (alike k within)))
uniform items w f P xs bit (Err _) long alike filled packed = tt

pub returns-clause-summary : goal.returns-clause-summary
returns-clause-summary g c =
    uniform (λ made. made.items) _ _ _ c.args.blocks.now c.args.bit c.repeated_bit.result
    (c.is_short.ensures.long c.if-is_short.false) c.requires.uniform c.repeated_bit.ensures.filled c.repeated_bit.ensures.packed
