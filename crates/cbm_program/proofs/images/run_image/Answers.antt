use Rattle.std.proofs.Common.{◌∙◌, ℕ, List, inl, inr, ap, sym, subst, Err, rules}
use Rattle.std.proofs.lemmas.Result.{IfOk-weaker, err_from_is_err_and}
use Rattle.cbm_image.specs.AnyDisks.{any_seen}
use Rattle.cbm_host.specs.Hosted.{party_of}
use Rattle.cbm_image.specs.Images.{kind_of, image_fault, tracks_of, content_of, ImageHolds}
use Rattle.cbm_program.specs.Checking.{checked_text}
use Rattle.cbm_program.specs.Outcome.{IsScriptServed, IsTraced}
use Rattle.cbm_program.specs.Starts.{BeginsOn, StartsFrom, KeptBy}
use Rattle.cbm_program.specs.Timetables.{of_requests, of_changes}
use Rattle.cbm_program.proofs.LinePrints.{if_err}
use Rattle.cbm_program.proofs.OutputLemmas.{grows_none}
use Rattle.cbm_program.proofs.GuardedRuns.{by_protection, kept-afterwards, kept-trace}
use Rattle.cbm_program.proofs.Outcomes.{run-again, run-refused, refused-ends, lacking-ends, lacking-image, refused-again, not-lacking}
use Rattle.cbm_program.proofs.TraceLemmas.{traced-among, left-among, cut-among, cut-left, ends-saved}
use Rattle.cbm_program.proofs.StartLemmas.{keeps-same, ended-among, ends-again, ends-any, checked-as, served-among, part-among, served-part, starts-as, holds-as, tracks-as}
use Rattle.cbm_program.proofs.images.run_image.Goals as goal

-- the image isn't taken, and nothing is written
pub returns-in_err-disk-clause-requests : goal.returns-in_err-disk-clause-requests
returns-in_err-disk-clause-requests g c =
    let p = err_from_is_err_and c.from_residual.result c.from_residual.ensures.1 in
    let run = run-refused c.from_residual.result _ _ (g.R.Read.remaining c.args.reader) (BeginsOn c.args.image.now c.args.options.now.protected) (λ saved m. ImageHolds (kind_of c.args.image.now) saved.items m.disk) c.args.options.now.pace c.args.options.now.device c.args.options.now.check (p.1 ∙ ap Err p.2)
    (λ P. refused-ends c.from_residual.result _ _ P (p.1 ∙ ap Err p.2) c.in_err-disk.ensures.cause) in
    record { script = run.served; memory = λ e. inl (keeps-same _) }

pub returns-in_err-disk-clause-changes : goal.returns-in_err-disk-clause-changes
returns-in_err-disk-clause-changes g c =
    let p = err_from_is_err_and c.from_residual.result c.from_residual.ensures.1 in
    let run = run-refused c.from_residual.result _ _ (g.R.Read.remaining c.args.reader) (BeginsOn c.args.image.now c.args.options.now.protected) (λ saved m. ImageHolds (kind_of c.args.image.now) saved.items m.disk) c.args.options.now.pace c.args.options.now.device c.args.options.now.check (p.1 ∙ ap Err p.2)
    (λ P. refused-ends c.from_residual.result _ _ P (p.1 ∙ ap Err p.2) c.in_err-disk.ensures.cause) in
    record { script = run.played; wrote = run.wrote; memory = λ e. inl (keeps-same _) }

pub returns-in_err-disk-clause-outcome : goal.returns-in_err-disk-clause-outcome
returns-in_err-disk-clause-outcome g c =
    let p = err_from_is_err_and c.from_residual.result c.from_residual.ensures.1 in
    record {
      grows = grows_none _;
      checked = λ e. refused-ends c.from_residual.result _ _ _ (p.1 ∙ ap Err p.2) c.in_err-disk.ensures.cause;
      guarded = (search rules);
      same_tracks = (search rules);
      opens = (search rules);
      refused = (search rules);
      cause = (search rules);
    }

-- memory is lacking for the drive, and nothing is written
pub returns-in_err-channels-clause-requests : goal.returns-in_err-channels-clause-requests
returns-in_err-channels-clause-requests g c =
    let p = err_from_is_err_and c.from_residual-in_err-channels.result c.from_residual-in_err-channels.ensures.1 in
    let run = run-refused c.from_residual-in_err-channels.result _ _ (g.R.Read.remaining c.args.reader) (BeginsOn c.args.image.now c.args.options.now.protected) (λ saved m. ImageHolds (kind_of c.args.image.now) saved.items m.disk) c.args.options.now.pace c.args.options.now.device c.args.options.now.check (p.1 ∙ ap Err p.2)
    (λ P. lacking-ends c.from_residual-in_err-channels.result _ P (p.1 ∙ ap Err p.2) c.in_err-channels.ensures) in
    record { script = run.served; memory = λ e. inl (keeps-same _) }

pub returns-in_err-channels-clause-changes : goal.returns-in_err-channels-clause-changes
returns-in_err-channels-clause-changes g c =
    let p = err_from_is_err_and c.from_residual-in_err-channels.result c.from_residual-in_err-channels.ensures.1 in
    let run = run-refused c.from_residual-in_err-channels.result _ _ (g.R.Read.remaining c.args.reader) (BeginsOn c.args.image.now c.args.options.now.protected) (λ saved m. ImageHolds (kind_of c.args.image.now) saved.items m.disk) c.args.options.now.pace c.args.options.now.device c.args.options.now.check (p.1 ∙ ap Err p.2)
    (λ P. lacking-ends c.from_residual-in_err-channels.result _ P (p.1 ∙ ap Err p.2) c.in_err-channels.ensures) in
    record { script = run.played; wrote = run.wrote; memory = λ e. inl (keeps-same _) }

pub returns-in_err-channels-clause-outcome : goal.returns-in_err-channels-clause-outcome
returns-in_err-channels-clause-outcome g c =
    let p = err_from_is_err_and c.from_residual-in_err-channels.result c.from_residual-in_err-channels.ensures.1 in
    record {
      grows = grows_none _;
      checked = λ e. lacking-ends c.from_residual-in_err-channels.result _ _ (p.1 ∙ ap Err p.2) c.in_err-channels.ensures;
      guarded = (search rules);
      same_tracks = (search rules);
      opens = (search rules);
      refused = (search rules);
      cause = λ n e. lacking-image c.from_residual-in_err-channels.result _ n _ (p.1 ∙ ap Err p.2) c.in_err-channels.ensures e;
    }

-- the run breaks off
pub returns-in_err-disk-2-clause-requests : goal.returns-in_err-disk-2-clause-requests
returns-in_err-disk-2-clause-requests g c =
    let disk = c.in_ok-disk.disk in
    let first = c.in_ok-disk.ensures.ok in
    let image = c.args.image.now in
    let seen = any_seen in
    let among = starts-as (kind_of image) image (seen disk) c.args.options.now.protected first.shown first.same_protection in
    let p = err_from_is_err_and c.from_residual-in_err-disk-2.result c.from_residual-in_err-disk-2.ensures.1 in
    let run = run-again c.from_residual-in_err-disk-2.result _ _ _ (g.R.Read.remaining c.args.reader) (BeginsOn image c.args.options.now.protected) (StartsFrom (seen disk)) (λ saved m. ImageHolds (kind_of image) saved.items m.disk) (λ after. KeptBy (seen after)) c.args.options.now.pace c.args.options.now.device
    c.args.options.now.check among (p.1 ∙ ap Err p.2) c.in_err-disk-2.ensures.run in
    record { script = run.served; memory = not-lacking c.from_residual-in_err-disk-2.result _ _ (p.1 ∙ ap Err p.2) c.in_err-disk-2.ensures.cause }

pub returns-in_err-disk-2-clause-changes : goal.returns-in_err-disk-2-clause-changes
returns-in_err-disk-2-clause-changes g c =
    let disk = c.in_ok-disk.disk in
    let first = c.in_ok-disk.ensures.ok in
    let image = c.args.image.now in
    let seen = any_seen in
    let among = starts-as (kind_of image) image (seen disk) c.args.options.now.protected first.shown first.same_protection in
    let p = err_from_is_err_and c.from_residual-in_err-disk-2.result c.from_residual-in_err-disk-2.ensures.1 in
    let run = run-again c.from_residual-in_err-disk-2.result _ _ _ (g.R.Read.remaining c.args.reader) (BeginsOn image c.args.options.now.protected) (StartsFrom (seen disk)) (λ saved m. ImageHolds (kind_of image) saved.items m.disk) (λ after. KeptBy (seen after)) c.args.options.now.pace c.args.options.now.device
    c.args.options.now.check among (p.1 ∙ ap Err p.2) c.in_err-disk-2.ensures.run in
    record { script = run.played; wrote = run.wrote; memory = not-lacking c.from_residual-in_err-disk-2.result _ _ (p.1 ∙ ap Err p.2) c.in_err-disk-2.ensures.cause }

pub returns-in_err-disk-2-clause-outcome : goal.returns-in_err-disk-2-clause-outcome
returns-in_err-disk-2-clause-outcome g c =
    let disk = c.in_ok-disk.disk in
    let first = c.in_ok-disk.ensures.ok in
    let image = c.args.image.now in
    let seen = any_seen in
    let p = err_from_is_err_and c.from_residual-in_err-disk-2.result c.from_residual-in_err-disk-2.ensures.1 in
    record {
      grows = c.in_err-disk-2.ensures.run.grows;
      checked = λ e. ends-again _ _ _ _ (c.in_err-disk-2.ensures.checked e) (p.1 ∙ ap Err p.2) (λ bad. checked-as (kind_of image) image (seen disk) _ _ first.shown);
      guarded = (search rules);
      same_tracks = (search rules);
      opens = (search rules);
      refused = (search rules);
      cause = λ n e. refused-again c.from_residual-in_err-disk-2.result _ n _ (p.1 ∙ ap Err p.2) c.in_err-disk-2.ensures.cause e;
    }

-- the disk is saved, or memory for its image is refused
pub returns-clause-requests : goal.returns-clause-requests
returns-clause-requests g c =
    let disk = c.in_ok-disk.disk in
    let after = c.in_ok-disk-2.disk in
    let image = c.args.image.now in
    let seen = any_seen in
    let pace = c.args.options.now.pace in
    let checks = c.args.options.now.check in
    let guarded = c.args.options.now.protected in
    let before = g.W.Write.contents c.args.writer.now in
    let afterwards = g.W.Write.contents c.run_with.new.writer in
    let asked = of_requests (g.R.Read.remaining c.args.reader) in
    let first = c.in_ok-disk.ensures.ok in
    let starts = BeginsOn image guarded in
    let all = StartsFrom (seen disk) in
    let kept = KeptBy (seen after) in
    let run = c.in_ok-disk-2.ensures.run in
    let among = starts-as (kind_of image) image (seen disk) guarded first.shown first.same_protection in
    record {
      script = record {
        ended = ends-saved c.image_after.result _ c.image_after.ensures.err (ended-among pace checks before afterwards starts all (λ m. Unit {0}) (λ m. Unit {0}) among (λ m s. s) asked _ run.served.ended);
        disk = by_protection guarded (λ free. IfOk-weaker c.image_after.result _ _ (λ saved is. served-among pace checks before afterwards starts all kept (λ m. ImageHolds (kind_of image) saved.items m.disk) among
            (holds-as (kind_of image) saved.items (seen after) is) asked run.served.disk) (c.image_after.ensures.written free))
            (λ kept_so. IfOk-weaker c.image_after.result _ _ (λ saved same. subst (λ (l : List ℕ). IsScriptServed pace checks asked before afterwards starts (λ m. ImageHolds (kind_of image) l m.disk)) (sym same)
            (kept-afterwards (tracks_of (kind_of image) image) (content_of (kind_of image) image) guarded kept_so pace checks before afterwards asked (λ m. Unit {0})
            (served-among pace checks before afterwards starts all kept (λ m. Unit {0}) among (λ m s. tt) asked run.served.disk)))
            (c.image_after.ensures.given kept_so));
        fault = if_err c.image_after.result (part-among pace checks before afterwards asked starts all among (served-part pace checks before afterwards asked all kept run.served.disk));
      };
      memory = λ e. inr (ended-among pace checks before afterwards starts all (λ m. Unit {0}) (λ m. Unit {0}) among (λ m s. s) asked _ run.served.ended);
    }

pub returns-clause-changes : goal.returns-clause-changes
returns-clause-changes g c =
    let disk = c.in_ok-disk.disk in
    let after = c.in_ok-disk-2.disk in
    let image = c.args.image.now in
    let seen = any_seen in
    let pace = c.args.options.now.pace in
    let checks = c.args.options.now.check in
    let guarded = c.args.options.now.protected in
    let drive = party_of pace c.args.options.now.device in
    let before = g.W.Write.contents c.args.writer.now in
    let afterwards = g.W.Write.contents c.run_with.new.writer in
    let timed = of_changes (g.R.Read.remaining c.args.reader) in
    let first = c.in_ok-disk.ensures.ok in
    let starts = BeginsOn image guarded in
    let all = StartsFrom (seen disk) in
    let kept = KeptBy (seen after) in
    let run = c.in_ok-disk-2.ensures.run in
    let among = starts-as (kind_of image) image (seen disk) guarded first.shown first.same_protection in
    record {
      script = record {
        ended = ends-saved c.image_after.result _ c.image_after.ensures.err (traced-among (checked_text checks) before afterwards timed starts all (λ m. Unit {0}) (λ m. Unit {0}) drive _ among (λ m s. s) run.played.ended);
        disk = by_protection guarded (λ free. IfOk-weaker c.image_after.result _ _ (λ saved is. left-among (checked_text checks) before afterwards timed starts all kept (λ m. ImageHolds (kind_of image) saved.items m.disk) drive among
            (holds-as (kind_of image) saved.items (seen after) is) run.played.disk) (c.image_after.ensures.written free))
            (λ kept_so. IfOk-weaker c.image_after.result _ _ (λ saved same. subst (λ (l : List ℕ). IsTraced drive checks timed before afterwards starts (λ m. ImageHolds (kind_of image) l m.disk)) (sym same)
            (kept-trace (tracks_of (kind_of image) image) (content_of (kind_of image) image) guarded kept_so (checked_text checks) before afterwards timed (λ m. Unit {0}) drive
            (left-among (checked_text checks) before afterwards timed starts all kept (λ m. Unit {0}) drive among (λ m s. tt) run.played.disk)))
            (c.image_after.ensures.given kept_so));
        fault = if_err c.image_after.result (cut-among (checked_text checks) before afterwards timed starts all drive among (cut-left (checked_text checks) before afterwards timed all kept drive run.played.disk));
      };
      wrote = ends-saved c.image_after.result _ c.image_after.ensures.err run.wrote;
      memory = λ e. inr (traced-among (checked_text checks) before afterwards timed starts all (λ m. Unit {0}) (λ m. Unit {0}) drive _ among (λ m s. s) run.played.ended);
    }

pub returns-clause-outcome : goal.returns-clause-outcome
returns-clause-outcome g c =
    let disk = c.in_ok-disk.disk in
    let after = c.in_ok-disk-2.disk in
    let image = c.args.image.now in
    let seen = any_seen in
    let guarded = c.args.options.now.protected in
    let first = c.in_ok-disk.ensures.ok in
    record {
      grows = c.in_ok-disk-2.ensures.run.grows;
      checked = λ e. ends-any c.image_after.result _ (λ bad. checked-as (kind_of image) image (seen disk) _ _ first.shown (c.in_ok-disk-2.ensures.checked e));
      guarded = λ kept_so. c.image_after.ensures.given kept_so;
      same_tracks = by_protection guarded (λ free. IfOk-weaker c.image_after.result _ _ (λ saved is. tracks-as (kind_of image) image saved.items
          (seen disk) (seen after) first.shown c.in_ok-disk-2.ensures.same_tracks is) (c.image_after.ensures.written free))
          (λ kept_so. IfOk-weaker c.image_after.result _ _ (λ saved same. ap (tracks_of (kind_of image)) same) (c.image_after.ensures.given kept_so));
      opens = by_protection guarded (λ free. IfOk-weaker c.image_after.result _ _ (λ saved is. is.faultless) (c.image_after.ensures.written free))
          (λ kept_so. IfOk-weaker c.image_after.result _ _ (λ saved same. ap (image_fault (kind_of c.args.image.now)) same ∙ first.shown.faultless) (c.image_after.ensures.given kept_so));
      refused = (search rules);
      cause = (search rules);
    }
