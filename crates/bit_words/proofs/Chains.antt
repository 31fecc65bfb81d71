-- What the longest chains of calls end with. A check proves side by side what one module needs, and takes one module
-- after another; so the first module needs all that takes long. Nothing cites this file, and its imports stay.
use Rattle.bit_words.proofs.bit_vec.BitVec.unite_difference.Met as unites
use Rattle.bit_words.proofs.bit_vec.debug.BitVecDebug.fmt.Met as shows
use Rattle.bit_words.proofs.bit_vec.first_and_nonzero.FirstAndNonzeroIterator.next.Met as begins
use Rattle.bit_words.proofs.bit_vec.nonzero.Nonzero.count_ones.Met as counts
use Rattle.bit_words.proofs.bit_vec.nonzero.Nonzero.between.Met as cuts
use Rattle.bit_words.proofs.bit_vec.nonzero.Nonzero.skip_blocks.Met as skips
use Rattle.bit_words.proofs.bit_vec.nonzero.back.NonzeroDoubleEndedIterator.next_back.Met as ends
