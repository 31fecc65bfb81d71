-- The words of a line.
use Rattle.std.specs.{Borrow.Bor, List.{All, join_with_byte}, Prelude.{◌≡◌, ◌≢◌, ℕ, List, [], Option}}
use Rattle.std.specs.Option.{option_map_or}
use Rattle.bit_set_commands.specs.Cuts.{Lacks, parts_at}

-- the texts between the spaces, of which some may be empty
abbrev pub words_of : List ℕ → List (List ℕ)
words_of line = parts_at 32 line

-- The words of a text that may be missing. No public clause cites this.
abbrev pub words_left : Option (Bor (List ℕ)) → List (List ℕ)
words_left text = option_map_or (λ t. words_of t.now) text []

-- These are the words of the line: there is one at least, none holds a space, and joined by a space
-- they give the line.
pub record AreWords (line : List ℕ) (words : List (List ℕ)) : Type 0 where
  pub some : words ≢ []
  pub whole : All (Lacks 32) words
  pub joined : join_with_byte 32 words ≡ line
