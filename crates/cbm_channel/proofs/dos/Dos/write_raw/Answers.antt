use Rattle.std.proofs.Common.{refl, subst}
use Rattle.cbm_channel.specs.Standing.{Kept}
use Rattle.cbm_channel.specs.Loosely.{WritesRaw}
use Rattle.cbm_channel.proofs.dos.Dos.write_raw.Goals as goal

pub returns : goal.returns
returns g c =
    let seen = g.M.Medium.seen in
    let before : Kept _ = record { medium = c.self.inside.volume; channels = c.self.inside.channels.items; told = c.self.inside.telling; text = c.self.inside.text } in
    subst (λ (k : Kept _). WritesRaw seen c.args.at c.args.bytes.now c.write_raw.result k (record before { medium = c.write_raw.new.self })) c.self.view_is (record {
      done = c.write_raw.ensures.done;
      stopped = c.write_raw.ensures.err;
      named = c.write_raw.ensures.place;
      only = record { channels = refl; told = refl; text = refl };
      counted = c.write_raw.ensures.only.counted;
    })
