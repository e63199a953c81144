use Rattle.std.proofs.Common.{rules, ◌≡◌, ◌-◌, ap, subst, ◌∙◌, sym, arith, Some, []}
use Rattle.std.proofs.lemmas.Result.{err_from_is_err_and}
use Rattle.cbm_medium.specs.Place.{Place}
use Rattle.cbm_medium.specs.Links.{follow}
use Rattle.cbm_medium.proofs.Walks.{follow_fault}
use Rattle.cbm_medium.proofs.link.read_linked.Goals as goal

-- the medium's fault at the address is the trouble at the link
pub returns-in_err-bytes-clause-step : goal.returns-in_err-bytes-clause-step
returns-in_err-bytes-clause-step g c =
    let p = err_from_is_err_and c.from_residual.result c.from_residual.ensures.1 in
    record {
      followed = rw p.1 tt;
      some = rw p.1 tt;
      cut = rw (p.1, p.2)
          (subst (λ (x : Place). follow c.args.geometry (g.M.Medium.seen c.args.medium.now).content c.args.left c.args.at
          ≡ record { blocks = []; trouble = Some (record { code = c.in_err-bytes.field-0.0.code; track = x.track; sector = x.sector }) })
          (sym (c.in_err-bytes.ensures.err.1 ∙ c.in-Some.ensures.1))
          (follow_fault c.args.geometry (g.M.Medium.seen c.args.medium.now).content c.args.left (c.args.left - 1) c.args.at c.in_err-bytes.field-0.0.code
          c.requires.going c.in-Some.ensures.0 (omega arith)
          (ap (g.M.Medium.seen c.args.medium.now).content (sym c.in-Some.ensures.1) ∙ c.in_err-bytes.ensures.err.0)));
      never_26 = (search rules);
    }
