-- A request to a drive on any disk, byte by byte: it is one to the machine that plays back what the drive showed.
use Rattle.std.proofs.Common.{◌≡◌, ℕ, ◌+◌, ◌<◌, ◌≤◌, Bool, false, List, [], ◌∷◌, ◌++◌, Option, Some, None, refl, sym, subst}
use Rattle.std.specs.Prelude.{IfSome, MatchOption}
use Rattle.std.proofs.lemmas.List.{append_assoc}
use Rattle.cbm_iec.specs.Ports as ports
use Rattle.cbm_iec.specs.declared.lines.Lines.{Lines}
use Rattle.cbm_iec.specs.declared.pace.Pace.{Pace}
use Rattle.cbm_iec.specs.declared.port.Port.{Port}
use Rattle.cbm_drive.specs.Cables.{Cabled, all_free}
use Rattle.cbm_drive.specs.Players.{at_start}
use Rattle.cbm_drive.specs.Seats.{Seated, IsWithout, IsBusAt, wires_held_by}
use Rattle.cbm_drive.specs.PlayedBack.{played_byte}
use Rattle.cbm_host.proofs.AnyDisk.{rest_played}
use Rattle.cbm_host.proofs.Anyway.{carried_anyway}
use Rattle.cbm_host.proofs.Hosting.{is_drive}
use Rattle.cbm_host.proofs.Performed.{performing_none}
use Rattle.cbm_host.specs.AnyDisk.{IsAtRestAnyway, IsUnderWayAnyway, IsOverAnyway}
use Rattle.cbm_host.specs.Engines.{engine_at, stage_end, channel_of}
use Rattle.cbm_host.specs.Hosted.{party_of}
use Rattle.cbm_host.specs.Performers.{Performing}
use Rattle.cbm_drive.specs.Playback.{Shown, Playback, played_says, played_step, IsPlayedBack}
use Rattle.cbm_host.specs.Recorded.{TakesRecorded}
use Rattle.cbm_host.specs.Requests.{longest}
use Rattle.cbm_host.specs.declared.request.Request.{Request}
use Rattle.cbm_session.specs.Playing.{Station, at_rest, nobody}

module _ {D : Type 0} (shows : D → Shown) (pace : Pace) (device : ℕ) where
  abbrev resting : Playback → List (Station Playback)
  resting m = at_rest Playback played_step played_says (λ d. m) (party_of pace device ∷ [])

  abbrev IsOnBus : List Shown → Cabled D → Playback → Type 0
  IsOnBus shown b m = IsBusAt D Playback (IsPlayedBack shows shown) b.host b.drives (resting m)

  -- at power up
  pub rests_first_anyway : (b : Cabled D) (x : Seated D) → b.host ≡ all_free → b.drives ≡ x ∷ [] → x.port ≡ ports.resting (party_of pace device) → IfSome (shows x.machine) (λ s. s.0 < 256) → IsAtRestAnyway shows (party_of pace device) b
  rests_first_anyway b x free one port byte =
      subst (λ (l : Lines). IsBusAt D (Unit {0}) (λ x u. IfSome (shows x) (λ s. s.0 < 256)) l b.drives (at_rest (Unit {0}) (λ u act. u) (λ u. None) (λ d. tt) (party_of pace device ∷ []))) (sym free)
      (subst (λ (xs : List (Seated D)). IsBusAt D (Unit {0}) (λ x u. IfSome (shows x) (λ s. s.0 < 256)) all_free xs (at_rest (Unit {0}) (λ u act. u) (λ u. None) (λ d. tt) (party_of pace device ∷ []))) (sym one)
      (record { port = port; machine = byte; rest = rest }, tt))
    where
      rest : IsWithout (wires_held_by all_free (x ∷ [])) x.port.own nobody
      rest = subst (λ (q : Port). IsWithout (wires_held_by all_free ((record { port = q; machine = x.machine }) ∷ [])) q.own nobody) (sym port) (record { host = refl; clocks = refl; datas = refl })

  -- before the first event
  pub begun_anyway : (start : ℕ) (b : Cabled D) (p : Performing) (request : Request) → IsAtRestAnyway shows (party_of pace device) b → p.player ≡ at_start → p.engine ≡ engine_at start device request → p.limit ≡ start + longest pace → IsUnderWayAnyway shows pace device start b p request
  begun_anyway start b p request rests player engine limit = record {
    before = b;
    rested = rests;
    trail = [];
    goes = λ later m k. (
      [],
      false,
      record {
        made = [];
        performing = performing_none D Playback (IsPlayedBack shows later) played_step played_says (played_byte shows later) (engine_at start device request) (start + longest pace) p b [] [] false (resting m) k player engine limit refl refl;
      },
    );
  }

  -- one more byte was taken
  pub goes_on_anyway : (start : ℕ) (b c : Cabled D) (p q : Performing) (said : ℕ × Bool) → TakesRecorded shows p q b c (Some said) → (request : Request) → IsUnderWayAnyway shows pace device start b p request → IsUnderWayAnyway shows pace device start c q request
  goes_on_anyway start b c p q said takes request u = record {
    before = u.before;
    rested = u.rested;
    trail = u.trail ++ takes.0;
    goes = λ later m k.
        (let k2 : IsOnBus (u.trail ++ (takes.0 ++ later)) u.before m = subst (λ (l : List Shown). IsOnBus l u.before m) (append_assoc u.trail takes.0 later) k in
        let t = u.goes (takes.0 ++ later) m k2 in
        (t.0 ++ said.0 ∷ [], said.1, takes.1 later (engine_at start device request) (start + longest pace) t.0 t.1 (resting m) t.2));
  }

  -- no more comes
  pub over_anyway : (start moment : ℕ) (b c : Cabled D) (p q : Performing) → 8 ≤ device → device ≤ 11 → ((t : ℕ) → stage_end q.engine.stage ≡ Some t → t ≤ q.limit → moment ≡ t) → TakesRecorded shows p q b c None
      → (request : Request) → channel_of request ≤ 15 → IsUnderWayAnyway shows pace device start b p request → IsOverAnyway shows pace device start c moment request
  over_anyway start moment b c p q low high is takes request channel u =
      let first = rest_played shows (party_of pace device) u.before (u.trail ++ (takes.0 ++ [])) u.rested in
      let t = u.goes (takes.0 ++ []) first.0 first.1 in
      let h = takes.1 [] (engine_at start device request) (start + longest pace) t.0 t.1 (resting first.0) t.2 in
      let over = carried_anyway shows (party_of pace device) (is_drive pace device low high) start request channel u.before c (u.trail ++ (takes.0 ++ [])) first.0 first.1 q [] h.made t.0 t.1 moment h.performed is in
      record { rests = over.rests; later = λ modest. (over.done modest).done.later }

  -- the same of what a call answers
  abbrev pub OnTakeAnyway : Pace → ℕ → Cabled D → Cabled D → ℕ → Performing → Performing → Option (ℕ × Bool) → Type 0
  OnTakeAnyway e d b c moment p q result = (request : Request) (start : ℕ) → channel_of request ≤ 15 → IsUnderWayAnyway shows e d start b p request → MatchOption result (IsOverAnyway shows pace device start c moment request) (λ x. IsUnderWayAnyway shows pace device start c q request)
