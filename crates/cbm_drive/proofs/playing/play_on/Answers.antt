use Rattle.std.proofs.Common.{rules, ◌+◌, ◌∷◌, [], take, drop, get_or, ap, subst, sym, ◌∙◌, arith}
use Rattle.std.proofs.lemmas.List.{append-nil, take-append-drop, take_all}
use Rattle.cbm_iec.specs.declared.lines.Change.{Change}
use Rattle.cbm_drive.specs.Players.{Turns, IsOpen, IsAfter}
use Rattle.cbm_drive.specs.Played.{HasPlayed, IsPlayCut}
use Rattle.cbm_drive.proofs.Added.{after_none, added_none, added_more, played_of, cut_of, passed_on, either_way}
use Rattle.cbm_drive.proofs.Ordered.{next_of, front_bound, no_change}
use Rattle.cbm_drive.proofs.Unfailed.{carried_none, carried_on}
use Rattle.cbm_drive.proofs.playing.play_on.Goals as goal

pub loop-change-init : goal.loop-change-init
loop-change-init g c = record {
  added = λ u ss h. added_none _ g.D.Machine.State g.D.Machine.stands g.D.Machine.step g.D.Machine.says c.new-player.result c.args.bus.now c.args.events.now.items 0 ss [] (ap (λ (p : Turns). p.second) c.new-player.ensures)
      (subst (λ (p : Turns). IsAfter _ g.D.Machine.State g.D.Machine.stands g.D.Machine.step g.D.Machine.says p c.args.bus.now 0 ss []) (sym c.new-player.ensures) (after_none _ g.D.Machine.State g.D.Machine.stands g.D.Machine.step g.D.Machine.says g.met.D.Machine.byte c.args.bus.now ss h));
  open_ = record {
    waiting = ap (λ (p : Turns). p.waiting) c.new-player.ensures;
    second = ap (λ (p : Turns). p.second) c.new-player.ensures;
    from = (let same = ap (λ (p : Turns). p.from) c.new-player.ensures in omega (arith, same));
  };
  ordered = c.requires.ordered;
  carried = carried_none c.args.bus.now.drives;
}

-- the next change was played
pub loop-change-preserved : goal.loop-change-preserved
loop-change-preserved g c =
    let xs = c.args.changes.now in
    let i = c.loop-change.change-index in
    let x : Change = get_or xs i no_change in
    let next = next_of c.args.end i xs no_change (omega (arith, c.loop-change-test.true)) c.loop-change.invariant.ordered in
    record {
      added = λ u ss h.
          (let was = c.loop-change.invariant.added (omega (arith, u, c.play_change.ensures.carried.counted)) ss h in
          added_more _ g.D.Machine.State g.D.Machine.stands g.D.Machine.step g.D.Machine.says c.loop-change.player c.play_change.new.player c.loop-change.bus c.play_change.new.bus c.args.events.now.items c.loop-change.events.items c.play_change.new.events.items (take i xs) (x ∷ []) (take (i + 1) xs) 0 ss [] was
          (c.in_ok-play_change.ensures.added (omega (arith, u, c.loop-change.invariant.carried.counted)) 0 ss was.made was.after) (sym next.taken));
      open_ = subst (IsOpen c.play_change.new.player) (sym next.latest_is) c.in_ok-play_change.ensures.open;
      ordered = next.more;
      carried = carried_on c.loop-change.invariant.carried c.play_change.ensures.carried;
    }

-- memory was lacking before a change
pub returns-in_err-play_change-clause-played : goal.returns-in_err-play_change-clause-played
returns-in_err-play_change-clause-played g c = λ u ss h.
    let xs = c.args.changes.now in
    let i = c.loop-change.change-index in
    let was = c.loop-change.invariant.added (omega (arith, u, c.play_change.ensures.carried.counted)) ss h in
    passed_on c.from_residual.result (λ y. HasPlayed _ g.D.Machine.State g.D.Machine.stands g.D.Machine.step g.D.Machine.says c.play_change.new.bus.host (c.args.end + 1) c.play_change.new.bus.drives c.args.events.now.items c.play_change.new.events.items xs ss)
    (λ e. IsPlayCut _ g.D.Machine.State g.D.Machine.stands g.D.Machine.step g.D.Machine.says c.play_change.new.bus.host c.play_change.new.bus.drives c.args.events.now.items c.play_change.new.events.items xs ss) c.from_residual.ensures.0
    (λ e. cut_of _ g.D.Machine.State g.D.Machine.stands g.D.Machine.step g.D.Machine.says c.play_change.new.player c.play_change.new.bus c.args.events.now.items c.play_change.new.events.items (take i xs) (drop i xs) xs ss
    (added_more _ g.D.Machine.State g.D.Machine.stands g.D.Machine.step g.D.Machine.says c.loop-change.player c.play_change.new.player c.loop-change.bus c.play_change.new.bus c.args.events.now.items c.loop-change.events.items c.play_change.new.events.items (take i xs) [] (take i xs) 0 ss [] was
    (c.in_err-play_change.ensures.added (omega (arith, u, c.loop-change.invariant.carried.counted)) 0 ss was.made was.after) (append-nil (take i xs))) (take-append-drop i xs))

pub play_out-requires : goal.play_out-requires
play_out-requires g c = (
  (search rules),
  (
    record {
      waiting = c.loop-change.invariant.open_.waiting;
      second = c.loop-change.invariant.open_.second;
      from = (let l = front_bound c.args.end c.loop-change.change-index c.args.changes.now 0 (omega arith) c.requires.ordered in omega (arith, l, c.loop-change.invariant.open_.from));
    },
    c.requires.end,
  ),
)

-- what was due up to the end
pub returns-clause-played : goal.returns-clause-played
returns-clause-played g c = λ u ss h.
    let xs = c.args.changes.now in
    let i = c.loop-change.change-index in
    let was = c.loop-change.invariant.added (omega (arith, u, c.play_out.ensures.carried.counted)) ss h in
    let all = added_more _ g.D.Machine.State g.D.Machine.stands g.D.Machine.step g.D.Machine.says c.loop-change.player c.play_out.new.player c.loop-change.bus c.play_out.new.bus c.args.events.now.items c.loop-change.events.items c.play_out.new.events.items (take i xs) [] xs 0 ss [] was
    (c.play_out.ensures.added (omega (arith, u, c.loop-change.invariant.carried.counted)) 0 ss was.made was.after) (append-nil (take i xs) ∙ take_all i xs (omega (arith, c.loop-change-test.false))) in
    either_way c.play_out.result _ _
    (played_of _ g.D.Machine.State g.D.Machine.stands g.D.Machine.step g.D.Machine.says c.play_out.new.player c.play_out.new.bus (c.args.end + 1) c.args.events.now.items c.play_out.new.events.items xs ss all c.play_out.ensures.from)
    (cut_of _ g.D.Machine.State g.D.Machine.stands g.D.Machine.step g.D.Machine.says c.play_out.new.player c.play_out.new.bus c.args.events.now.items c.play_out.new.events.items xs [] xs ss all (append-nil xs))
