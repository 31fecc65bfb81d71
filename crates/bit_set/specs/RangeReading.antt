-- How a text is read as ranges, as Linux reads lists of processors.
use Rattle.std.specs.{Prelude.{◌≡◌, ℕ, ◌+◌, ◌<◌, max, ◌==◌, ◌&&◌, nat_le, nat_lt, if◌then◌else◌, List, [], ◌∷◌, map, length, Option, Some, None, Result, Ok, Err}, List.slice_split, Borrow.Bor}
use Rattle.std.specs.{Option.{option_map, option_map_or}, Str.all_ascii_digits, Str.Parse.digits_value}
use Rattle.std.specs.declared.ops.Range.{Range}
use Rattle.bit_words.specs.Bounds.{greatest}
use Rattle.bit_set.specs.declared.range_texts.RangesError.{RangesError, TheVariants.{Memory, Number, Text}}

-- the number that digits write: one or more of them, of which the first may be zeros
abbrev pub number_of : List ℕ → Result ℕ RangesError
number_of digits =
    if nat_lt 0 (length digits) && all_ascii_digits digits then (if nat_lt (digits_value 10 digits) greatest then Ok (digits_value 10 digits) else Err Number) else Err Text

-- the range from one number up to another, which is not less
abbrev pub range_between : Result ℕ RangesError → Result ℕ RangesError → Result (Range ℕ) RangesError
range_between (Err fault) last = Err fault
range_between (Ok m) (Err fault) = Err fault
range_between (Ok m) (Ok n) = if nat_le m n then Ok (record { start = m; end = n + 1 }) else Err Text

-- what is before the first such byte and what is after it, or None where there is none
abbrev pub cut_at : ℕ → List ℕ → Option (List ℕ × List ℕ)
cut_at byte [] = None
cut_at byte (b ∷ bs) = if b == byte then Some ([], bs) else option_map (λ parts. (b ∷ parts.0, parts.1)) (cut_at byte bs)

-- the range that an item writes: a number alone, or the first one and the last one with a hyphen between them
abbrev pub range_of : List ℕ → Result (Range ℕ) RangesError
range_of item =
    option_map_or (λ parts. range_between (number_of parts.0) (number_of parts.1)) (cut_at 45 item) (range_between (number_of item) (number_of item))

abbrev pub without_space : List ℕ → List ℕ
without_space [] = []
without_space (b ∷ bs) = if b == 32 then bs else b ∷ bs

abbrev pub without_spaces : List (List ℕ) → List (List ℕ)
without_spaces [] = []
without_spaces (part ∷ parts) = part ∷ map without_space parts

-- the items of a text: what is between its commas, but for one space behind a comma
abbrev pub items_of : List ℕ → List (List ℕ)
items_of text = without_spaces (slice_split (λ b. b == 44) text)

-- a range before others, where none has a fault, or else the first fault
abbrev pub before_ranges : Result (Range ℕ) RangesError → Result (List (Range ℕ)) RangesError → Result (List (Range ℕ)) RangesError
before_ranges (Err fault) others = Err fault
before_ranges (Ok r) (Err fault) = Err fault
before_ranges (Ok r) (Ok rs) = Ok (r ∷ rs)

-- the ranges that items write
abbrev pub ranges_of : List (List ℕ) → Result (List (Range ℕ)) RangesError
ranges_of [] = Ok []
ranges_of (item ∷ items) = before_ranges (range_of item) (ranges_of items)

-- the ranges that a text writes, in any order, or its first fault; the empty text writes none
abbrev pub ranges_in : List ℕ → Result (List (Range ℕ)) RangesError
ranges_in [] = Ok []
ranges_in (b ∷ bs) = ranges_of (items_of (b ∷ bs))

-- one more than the greatest number of ranges, and 0 where there is none
abbrev pub end_of : List (Range ℕ) → ℕ
end_of [] = 0
end_of (r ∷ rs) = max r.end (end_of rs)

-- why a text was not read: its first fault, or memory, where it has none and writes a number
abbrev pub IsRangesFault : List ℕ → RangesError → Type 0
IsRangesFault text Text = ranges_in text ≡ Err Text
IsRangesFault text Number = ranges_in text ≡ Err Number
IsRangesFault text (Memory fault) = (rs : List (Range ℕ)) × (ranges_in text ≡ Ok rs) × (0 < end_of rs)

-- The items of what is left of a text. No public clause cites this.
abbrev pub items_left : Option (Bor (List ℕ)) → List (List ℕ)
items_left rest = option_map_or (λ text. items_of text.now) rest []
