-- What a Roaring bitmap that C lends is after it was handed on.
use Rattle.std.specs.Borrow.{Fml, Lends, MutBor}
use Rattle.roaring.specs.Bitmaps.{Bitmap}
use Rattle.c_handles.specs.{Bitmaps.bitmap_row, Handed.ends_as_is}
use Rattle.c_handles.specs.declared.bitmaps.ExclusiveBitmap.{ExclusiveBitmap}
use Rattle.c_handles.specs.contracts.bitmaps.ExclusiveBitmap as exclusive
use Rattle.c_handles.specs.declared.bitmaps.SharedBitmap.{SharedBitmap}
use Rattle.c_handles.specs.contracts.bitmaps.SharedBitmap as shared

abbrev pub with_bitmap : ExclusiveBitmap → Bitmap → ExclusiveBitmap
with_bitmap set bitmap = record set { bitmap = bitmap }

-- `set` ends as what is left in `inner`
abbrev pub lends_bitmap : MutBor ExclusiveBitmap → MutBor Bitmap → Fml
lends_bitmap set inner = Lends exclusive.the_row bitmap_row set inner (with_bitmap set.now)

abbrev pub bitmap_stays : MutBor SharedBitmap → Fml
bitmap_stays = ends_as_is shared.the_row
