-- Reads and writes one after another, at a reader and a writer whose bytes are known.
use Rattle.std.proofs.Common.{◌≡◌, ℕ, ◌+◌, ◌<◌, ◌≤◌, List, ◌++◌, length, take, drop, Option, sym, ap, ◌∙◌, append_assoc, arith}
use Rattle.std.{specs.Io.KnownBytes.{Consumes, Appends}, proofs.KnownBytes.{Appends-trans, Consumes-trans}}
use Rattle.std.proofs.lemmas.List.{take-append-drop, length-append, length-take-le, take-append-le}
use Rattle.bit_set_run.specs.Streams.{limit, GaveCount, GaveSome}

-- the bytes so far, and a read more
pub record HasRead (old new : Option (List ℕ)) (input : List ℕ) (turns : ℕ) : Type 0 where
  pub taken : Consumes old new input
  pub small : length input ≤ limit
  pub turn : turns ≤ length input

-- the text is what was sent and the rest
pub record HasSent (old new : Option (List ℕ)) (text rest : List ℕ) : Type 0 where
  pub sent : List ℕ
  pub parts : text ≡ sent ++ rest
  pub written : Appends old new sent

pub HasSent-more : (old mid new : Option (List ℕ)) (text rest : List ℕ) (n : ℕ) → HasSent old mid text rest → Appends mid new (take n rest) → HasSent old new text (drop n rest)
HasSent-more old mid new text rest n so_far write = record {
  sent = so_far.sent ++ take n rest;
  parts = so_far.parts ∙ ap (λ t. so_far.sent ++ t) (sym (take-append-drop n rest)) ∙ sym (append_assoc so_far.sent (take n rest) (drop n rest));
  written = Appends-trans old mid new so_far.sent (take n rest) so_far.written write;
}

pub HasRead-more :
    (old mid new : Option (List ℕ)) (input buffer behind : List ℕ) (turns n : ℕ)
    → HasRead old mid input turns → Consumes mid new (take n buffer) → n ≤ length buffer → 0 < n → length input + n ≤ limit
    → HasRead old new (input ++ take n (buffer ++ behind)) (turns + 1)
HasRead-more old mid new input buffer behind turns n so_far read within some small =
    let piece : take n (buffer ++ behind) ≡ take n buffer = take-append-le n buffer behind within in
    let long : length (take n buffer) ≡ n = length-take-le n buffer within in
    rw piece record {
      taken = Consumes-trans old mid new input (take n buffer) so_far.taken read;
      small = rw (length-append, long) small;
      turn = rw (length-append, long) (omega (arith, so_far.turn, some));
    }

-- a read that brings the bytes past the limit
pub GaveCount-past :
    (old mid new : Option (List ℕ)) (input buffer : List ℕ) (turns n : ℕ)
    → HasRead old mid input turns → Consumes mid new (take n buffer) → n ≤ length buffer → length input + length buffer ≤ limit + 1 → limit < length input + n
    → GaveCount old new (limit + 1)
GaveCount-past old mid new input buffer turns n so_far read within capacity past = record {
  bytes = input ++ take n buffer;
  taken = Consumes-trans old mid new input (take n buffer) so_far.taken read;
  count_is = let long : length (take n buffer) ≡ n = length-take-le n buffer within in rw (length-append, long) (omega (arith, within, capacity, past));
}

-- what was read after one turn at least
pub GaveSome-read : (old new : Option (List ℕ)) (input : List ℕ) (turns : ℕ) → HasRead old new input (turns + 1) → GaveSome old new limit
GaveSome-read old new input turns so_far =
    record { bytes = input; taken = so_far.taken; some = omega (arith, so_far.turn); few = so_far.small }
