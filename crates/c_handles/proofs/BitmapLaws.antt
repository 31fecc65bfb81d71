-- The laws of Roaring bitmaps in memory, and what C owns of them.
use denote.Param.Laws.{Laws}
use Rattle.roaring.proofs.set.RoaringBitmap.TheLaws as roaring
use Rattle.c_handles.specs.Bitmaps.{bitmap_row}
use Rattle.c_handles.specs.contracts.bitmaps.OwnedBitmap.{the_type as T}
use Rattle.c_handles.proofs.Owned.{Owner}

abbrev pub bitmap_laws : Laws bitmap_row
bitmap_laws = roaring.the_row_laws

abbrev pub owner : Owner bitmap_row
owner = record { name = T.name; D = T.D; at = λ h. h.at; alloc = λ h. h.alloc; held = λ h. h.held; coded = T.coded; shr_at = T.shr_at }
