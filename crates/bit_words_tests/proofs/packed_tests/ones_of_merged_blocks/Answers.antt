use Rattle.std.{proofs.{Common.{[], ◌∷◌, arith}, lemmas.List.Sums.{count_by-le-length}}, specs.List.{range_with_len}}
use Rattle.bit_blocks.specs.declared.block.merge.Merge.TheVariants.{Union}
use Rattle.bit_words.specs.MergedOnes.{merged_at}
use Rattle.bit_words_tests.proofs.packed_tests.ones_of_merged_blocks.Goals as goal

-- no more than the sixteen values are true
pub count_merged_blocks-requires-clause-fits : goal.count_merged_blocks-requires-clause-fits
count_merged_blocks-requires-clause-fits g c =
    omega (arith, count_by-le-length (merged_at Union 8 (5 ∷ 1 ∷ []) (6 ∷ [])) (range_with_len 0 16))
