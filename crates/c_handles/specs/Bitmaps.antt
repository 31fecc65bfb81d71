-- How memory keeps a Roaring bitmap that C hands over.
use Rattle.std.specs.Prelude.{Option}
use Rattle.std.specs.Borrow.{RattleType}
use Rattle.std.specs.Coded.{Coded, coded_option}
use Rattle.roaring.specs.Bitmaps.{Bitmap}
use Rattle.roaring.specs.contracts.set.RoaringBitmap as roaring

abbrev pub bitmap_row : RattleType
bitmap_row = roaring.the_row

abbrev pub bitmap_coded : Coded Bitmap
bitmap_coded = (bitmap_row).coded

abbrev pub held_bitmap_coded : Coded (Option Bitmap)
held_bitmap_coded = coded_option bitmap_coded
