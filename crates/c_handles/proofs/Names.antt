-- The names of the logic that most proofs by hand here cite, passed on from one place. Declares nothing.
pub use Rattle.std.proofs.BoxSteps.Form.{args, B, box_ty, box_typed, Bx, D, P, R, word, τ}
pub use Rattle.std.proofs.BoxSteps.Steps.{box_in, box_out}
pub use Rattle.std.proofs.Common.{[], ap, List, lit<, refl, subst, sym, ℕ, ◌++◌, ◌∙◌, ◌∷◌, ◌≡◌}
pub use Rattle.std.proofs.raw_atomic.Walks.{proved}
pub use Rattle.std.specs.Prelude.{Bool, false, is_some, IsSome, None, Option, Some, true}
pub use base.Fml.{fbor, feq, flft, Fml, fobs, fres, fsep, ftrue, GName, Incl, Lft, Share}
pub use base.Fraction.{full_share}
pub use base.Logic.{emp, ent, fst∗, guard, guard_i, id⊢, never, never_e, sep, snd∗, SProp, via}
pub use contract.BorrowLft.{meet_⊑_left, ◌⊑◌}
pub use contract.Monad.{fact, fact_i, fact_mono, fact_use, Fun}
pub use contract.Running.{tables}
unfoldable pub use contract.Running.{tables_of}
pub use denote.Exit.{no, yes}
pub use denote.Follow.{follows, lends_Part, Part}
unfoldable pub use denote.Follow.{follows_by, such_by}
pub use denote.Memory.{cell_at, hidden_shr, lone, mem, part_at}
unfoldable pub use denote.Memory.{part_of}
pub use denote.RattleType.{Denots, RattleType}
pub use denote.RawPtr.{block_ptr, in_a_block, lies_at, null_ptr, Ptr, ptr_val, RawPtr, rawptr_Lawful, Testable, tests_null}
pub use denote.Ref.{mut_Tells, mut_vals, MutBor, MutRef}
pub use denote.Shares.{closes_cut, settles}
pub use denote.Signature.{mut_ref_to, plain, Slot}
pub use denote.Steps.{closes, heard, nothing, only, opens, owned, peeks}
pub use denote.Triple.Spec.{triple_of}
pub use denote.Triple.Table.{entered}
pub use denote.Triple.Walked.{ends_at, Goes-dropped, Goes-ref, Goes-spent_ref, says, stay_dropped, stay_ref, Stays, walk_Meets, walk_of}
pub use mir.Syntax.{a_type, Args, assign, Body, copy, dcons, Dict, dnil, Fn, named, place, ptr_ne, return, rv_opd, seq}
pub use mir.Val.{has_ty, of_list, op2_val, Val, vbool, vnull, vptr, vstruct, WT}
pub use prog.Memory.{Memory}
pub use prog.Routine.{Routine}
pub use prog.Wp.{Tables, WpFn}
pub use seplogic.Ra.Ura.{Ura}
pub use sound.WpLaws.{fm_of, WpFn-mono}
pub use types.ByLocal.{alloc_all, env, free_all, get, get_in, is, lands_as, lands_last, look_at, pass_all, sets, sets_last, through}
pub use types.Kit.{ !, at_ret, await, by, done, drop, feq_i, feq_l, fjoin, fpack, fpick, frame, fsplit, fsplit3, given, group, Item, join, keep, later, learn, move, now, pick, qed, raw, rewrite, some, split, split3, suffices, updating, use1, use2, use3, ‵, ◌$◌, ◌∵◌, ◌⊛◌}
pub use types.Logic.{Logic, sem}
pub use types.Part.{agg, look_in, sub, whole}
pub use types.Run.{addr, and_then, bin, blocks, enter, exec, first, fld, lit, load, no_more, of_opd, returns, stop}
pub use types.Tokens.{bor_fracture, bor_open, name_done}
