-- A run, one command on.
use Rattle.std.proofs.Common.{◌≡◌, ℕ, ◌+◌, ◌<◌, ◌≤◌, ◌⊎◌, List, [], ◌∷◌, ◌++◌, length, get_or, take, append_assoc, refl, ap, sym, ◌∙◌}
use Rattle.std.{specs.Result.is_err, proofs.{Common.{Result, Ok, Err, true, false, OnOk, OnErr}, lemmas.List.take_more}}
use Rattle.std.proofs.{lemmas.Bool.true≢false, lemmas.Option.slice_get_read}
use Rattle.bit_set_commands.specs.{declared.commands.Command.Command, declared.commands.Reply.Reply}
use Rattle.bit_set_run.specs.Run.{Sets, step, run_of, FailsAt, StoppedAt}

-- a run of commands and of one more
pub sets-run_of_push : (sets : Sets) (commands : List Command) (command : Command) → (run_of sets (commands ++ command ∷ [])).sets ≡ (step (run_of sets commands).sets command).sets
sets-run_of_push sets [] command = refl
sets-run_of_push sets (first ∷ commands) command = sets-run_of_push (step sets first).sets commands command

pub replies-run_of_push : (sets : Sets) (commands : List Command) (command : Command) → (run_of sets (commands ++ command ∷ [])).replies ≡ (run_of sets commands).replies ++ (step (run_of sets commands).sets command).reply ∷ []
replies-run_of_push sets [] command = refl
replies-run_of_push sets (first ∷ commands) command = ap (λ rs. (step sets first).reply ∷ rs) (replies-run_of_push (step sets first).sets commands command)

-- the first commands have left these sets and given these replies, behind those that were there
pub record HasRun (place : ℕ) (commands : List Command) (old new : Sets) (old_replies new_replies : List Reply) : Type 0 where
  pub sets : new ≡ (run_of old (take place commands)).sets
  pub replies : new_replies ≡ old_replies ++ (run_of old (take place commands)).replies

pub HasRun-more :
    (place : ℕ) (commands : List Command) (old mid new : Sets) (old_replies mid_replies new_replies : List Reply) (command : Command)
    → HasRun place commands old mid old_replies mid_replies
    → place < length commands → command ≡ get_or commands place command
    → new ≡ (step mid command).sets → new_replies ≡ mid_replies ++ (step mid command).reply ∷ []
    → HasRun (place + 1) commands old new old_replies new_replies
HasRun-more place commands old mid new old_replies mid_replies new_replies command so_far lt is sets replies =
    let front : take (place + 1) commands ≡ take place commands ++ command ∷ [] = take_more commands place command lt ∙ ap (λ c. take place commands ++ c ∷ []) (sym is) in
    record {
      sets = sets ∙ ap (λ s. (step s command).sets) so_far.sets ∙ sym (ap (λ cs. (run_of old cs).sets) front ∙ sets-run_of_push old (take place commands) command);
      replies =
          replies ∙ ap (λ s. mid_replies ++ (step s command).reply ∷ []) so_far.sets ∙ ap (λ rs. rs ++ (step (run_of old (take place commands)).sets command).reply ∷ []) so_far.replies
          ∙ append_assoc old_replies _ _
          ∙ ap (λ rs. old_replies ++ rs) (sym (ap (λ cs. (run_of old cs).replies) front ∙ replies-run_of_push old (take place commands) command));
    }

-- what holds at `Ok` holds where there is no error
pub when_no_error : {T E P : Type 0} (r : Result T E) → is_err r ≡ false → OnOk r P → P
when_no_error (Ok x) none p = p
when_no_error (Err e) none p = absurd (true≢false none)

-- a run that stops at a command that it has read
pub StoppedAt-here :
    (place : ℕ) (commands : List Command) (capacity : ℕ) (old mid new : Sets) (old_replies mid_replies new_replies : List Reply) (command : Command)
    → HasRun place commands old mid old_replies mid_replies
    → place < length commands → command ≡ get_or commands place command
    → new_replies ≡ mid_replies → ((capacity ≤ length mid_replies) × (new ≡ mid)) ⊎ FailsAt mid command new
    → StoppedAt place commands capacity old new old_replies new_replies
StoppedAt-here place commands capacity old mid new old_replies mid_replies new_replies command so_far lt is replies stopped = record {
  within = lt;
  command = command;
  at = slice_get_read commands (length commands) place command refl lt is;
  replies = replies ∙ so_far.replies;
  sets = rw so_far.sets at (rw (sym replies) at stopped);
}

-- what holds at `Err` holds where there is an error
pub when_error : {T E P : Type 0} (r : Result T E) → is_err r ≡ true → OnErr r P → P
when_error (Ok x) some p = absurd (true≢false (sym some))
when_error (Err e) some p = p
