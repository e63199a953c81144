use Rattle.std.proofs.Common.{◌≤◌, [], ◌∷◌, ◌++◌, false, refl, ◌∙◌, arith, subst}
use Rattle.cbm_iec.specs.declared.pace.Pace.{Pace}
use Rattle.cbm_host.specs.Hosted.{Rests}
use Rattle.cbm_host.specs.Served.{served}
use Rattle.cbm_host.proofs.Hosting.{is_modest}
use Rattle.cbm_host.proofs.hosted.Hosted.carry_out.Goals as goal

pub bytes-init : goal.bytes-init
bytes-init g c = record { under_way = λ v m k r. ([], false, c.ask-performer.ensures.under_way m r); counted = omega arith; limit = c.ask-performer.ensures.limit; tracks = refl; device = refl; pace = refl; anyway = λ r. c.ask-performer.ensures.anyway r }

pub bytes-preserved : goal.bytes-preserved
bytes-preserved g c = record {
  under_way = λ v m k r.
      let u = c.bytes.invariant.under_way (omega (arith, v, c.take.ensures.counted)) m k r in
      (u.0 ++ c.in-Some._said.0 ∷ [], c.in-Some._said.1, (c.in-Some.ensures.taken (omega (arith, v, c.bytes.invariant.counted)) m c.args.request u.0 u.1 c.requires.channel k u.2).under_way);
  counted = omega (arith, c.take.ensures.counted, c.bytes.invariant.counted);
  limit = c.take.ensures.limit ∙ c.bytes.invariant.limit;
  tracks = c.take.ensures.tracks ∙ c.bytes.invariant.tracks;
  device = c.take.ensures.device ∙ c.bytes.invariant.device;
  pace = c.take.ensures.pace ∙ c.bytes.invariant.pace;
  anyway = λ r. c.in-Some.ensures.anyway c.args.request c.args.self.now.moment c.requires.channel (c.bytes.invariant.anyway r);
}

pub bytes-smaller : goal.bytes-smaller
bytes-smaller g c = c.in-Some.ensures.fewer

pub returns-clause-rests : goal.returns-clause-rests
returns-clause-rests g c = λ v m few r.
    let k = is_modest c.args.request few c.sends_bytes.ensures in
    let u = c.bytes.invariant.under_way (omega (arith, v, c.take.ensures.counted)) m k r in
    let over = c.in_default.ensures.taken (omega (arith, v, c.bytes.invariant.counted)) m c.args.request u.0 u.1 c.requires.channel k u.2 in
    subst (λ (e : Pace). Rests g.M.Medium.seen c.take.new.self (served e c.args.request m).machine) (c.take.ensures.pace ∙ c.bytes.invariant.pace) over.rests

pub returns-clause-soon : goal.returns-clause-soon
returns-clause-soon g c =
    let soon : c.take.new.self.moment ≤ c.bytes.performer.limit = c.in_default.ensures.moment in
    let same = c.bytes.invariant.limit in
    omega (arith, soon, same)

pub returns-clause-counted : goal.returns-clause-counted
returns-clause-counted g c = omega (arith, c.take.ensures.counted, c.bytes.invariant.counted)

pub returns-clause-pace : goal.returns-clause-pace
returns-clause-pace g c = c.take.ensures.pace ∙ c.bytes.invariant.pace

pub returns-clause-tracks : goal.returns-clause-tracks
returns-clause-tracks g c = c.take.ensures.tracks ∙ c.bytes.invariant.tracks

pub returns-clause-anyway : goal.returns-clause-anyway
returns-clause-anyway g c = λ few r. (c.in_default.ensures.anyway c.args.request c.args.self.now.moment c.requires.channel (c.bytes.invariant.anyway r)).rests (is_modest c.args.request few c.sends_bytes.ensures)

pub returns-clause-later : goal.returns-clause-later
returns-clause-later g c = λ few r. (c.in_default.ensures.anyway c.args.request c.args.self.now.moment c.requires.channel (c.bytes.invariant.anyway r)).later (is_modest c.args.request few c.sends_bytes.ensures)
