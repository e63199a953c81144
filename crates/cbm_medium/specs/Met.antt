-- What a link meets on any content.
use Rattle.std.specs.Prelude.{ℕ, ◌≡◌, ◌≢◌, ◌⊎◌, ◌-◌, ◌<◌, false, List, [], Option, Some, None, Result, Err, IfOk, IfErr, OnOk}
use Rattle.cbm_medium.specs.Place.{Place, has, Has}
use Rattle.cbm_medium.specs.Content.{Content}
use Rattle.cbm_medium.specs.Links.{LinksLead, follow, with_block}
use Rattle.cbm_medium.specs.declared.fault.Trouble.{Trouble}

-- the sector or the link that a trouble names
abbrev pub place_of : Trouble → Place
place_of t = record { track = t.track; sector = t.sector }

-- THE PLACE IS REACHED: it is one of those where a walk may start, or the links of sectors that read lead from one of those to it.
abbrev pub IsReached : ℕ → Content → (Place → Type 0) → Place → Type 0
IsReached tracks content starts q = (p : Place) × (blocks : List Place) × starts p × LinksLead tracks content p blocks q

-- THE CONTENT SHOWS THE TROUBLE where it is reached: the place is no sector of the disk (66), or one that doesn't read, with its fault.
abbrev pub IsMetFrom : ℕ → Content → (Place → Type 0) → Trouble → Type 0
IsMetFrom tracks content starts t =
    let at = place_of t in
    IsReached tracks content starts at × (((t.code ≡ 66) × (has tracks at ≡ false)) ⊎ (Has tracks at × (content at ≡ Err t.code)))

-- A REFUSAL TO READ: the content shows the trouble, and it isn't 26.
pub record MeetsTrouble {A : Type 0} (tracks : ℕ) (content : Content) (starts : Place → Type 0) (result : Result A Trouble) : Type 0 where
  pub shown : IfErr result (IsMetFrom tracks content starts)
  pub never_26 : IfErr result (λ t. t.code ≢ 26)

-- A WALK ALONG LINKS comes to its end, or to the trouble that breaks it off, which isn't 26.
pub record Walks {A : Type 0} (trouble : Option Trouble) (result : Result A Trouble) : Type 0 where
  pub whole : OnOk result (trouble ≡ None)
  pub cut : IfErr result (λ t. trouble ≡ Some t)
  pub never_26 : IfErr result (λ t. t.code ≢ 26)

-- A STEP OF A WALK of at most `left` blocks: from a block to the place where the next one lies, or to the trouble that breaks the walk off there.
pub record WalksOn {A : Type 0} (tracks : ℕ) (content : Content) (left : ℕ) (at : Place) (result : Result A Trouble) (next : A → Place) : Type 0 where
  pub followed : IfOk result (λ x. follow tracks content left at ≡ with_block at (follow tracks content (left - 1) (next x)))
  pub some : OnOk result (0 < left)
  pub cut : IfErr result (λ t. follow tracks content left at ≡ record { blocks = []; trouble = Some t })
  pub never_26 : IfErr result (λ t. t.code ≢ 26)
