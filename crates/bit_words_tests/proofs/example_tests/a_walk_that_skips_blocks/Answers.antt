use Rattle.std.proofs.Common.{◌^◌, ◌<◌, arith}
use Rattle.bit_words_tests.proofs.FitLemmas.{left_fits}
use Rattle.bit_words_tests.proofs.example_tests.a_walk_that_skips_blocks.Goals as goal

pub skip_blocks-requires : goal.skip_blocks-requires
skip_blocks-requires g c =
    let walk = c.nonzero_past-walk.ensures in
    record { fits = left_fits 8 (λ a. a) (λ a. a < 2 ^ 8) _ c.in_ok-bits.bits _ (omega arith) walk.blocks walk.start walk.fits }
