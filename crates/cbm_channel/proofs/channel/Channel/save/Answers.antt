use Rattle.std.proofs.Common.{sym, subst}
use Rattle.std.specs.Prelude.{OnOk}
use Rattle.cbm_channel.specs.declared.channel.Channel.{Channel}
use Rattle.cbm_channel.specs.Saved.{MayStand}
use Rattle.cbm_channel.proofs.EachKept.{on_ok}
use Rattle.cbm_channel.proofs.channel.Channel.save.Goals as goal

pub returns-in-Listing-clause-again : goal.returns-in-Listing-clause-again
returns-in-Listing-clause-again c = λ most fits.
    on_ok c.save_listing.result _ (subst (λ (x : Channel). MayStand most x) (sym c.in-Listing.is) (c.save_listing.ensures.again most))
