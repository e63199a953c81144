use Rattle.std.proofs.Common.{refl, subst}
use Rattle.cbm_direct_desk.specs.DirectDesks.{DirectAddressed, IsGivenDisk}
use Rattle.cbm_direct_desk.proofs.desk.DirectDeskTakes.take.Goals as goal

-- its DOS takes it
pub returns : goal.returns
returns g c =
    let call = c.insert.ensures in
    let now : DirectAddressed _ = record { dos = c.insert.new.self; addressed = c.self.inside.addressee } in
    subst (λ (o : DirectAddressed _). IsGivenDisk g.M.Medium.seen c.args.medium o now) c.self.view_is
    (record {
      taken = record { stands = call.stands; inside = call.medium; told = call.told; access = call.access; sound = call.sound; buffers = call.buffers; reply = call.reply };
      addressed = refl;
    })
