-- What a talk is answered by.
use Rattle.std.specs.Prelude.{ℕ, ◌≡◌, ◌≤◌, ◌+◌, List, [], ◌∷◌, ◌++◌, Option, None, flat_map}
use Rattle.std.specs.Io.KnownBytes.{Appends}
use Rattle.cbm_iec.specs.declared.event.Event.{Event}
use Rattle.cbm_iec.specs.declared.lines.Change.{Change}
use Rattle.bus_traces.specs.Events.{trace_text}
use Rattle.bus_replies.specs.declared.clock.Clock.{Clock}
use Rattle.bus_replies.specs.declared.request.ReplyRequest.{ReplyRequest}
use Rattle.bus_replies.specs.declared.request.ReplyRequest.TheVariants as asks
use Rattle.bus_replies.specs.Plays.{changes_of_host}
use Rattle.bus_replies.specs.Ready.{ready_text}

-- the changes of the host that a line asks for
abbrev pub changes_in : ReplyRequest → List Change
changes_in asks.Nothing = []
changes_in (asks.Change c) = c ∷ []
changes_in (asks.Until moment) = []
changes_in (asks.End moment) = []

-- no moment of a line is above 10 ^ 15
abbrev pub IsReplyInRange : ReplyRequest → Type 0
IsReplyInRange asks.Nothing = Unit {0}
IsReplyInRange (asks.Change c) = c.moment ≤ 1000000000000000
IsReplyInRange (asks.Until moment) = moment ≤ 1000000000000000
IsReplyInRange (asks.End moment) = moment ≤ 1000000000000000

-- WHAT MAY BE ASKED where the talk has come to a moment, and the host may change a line from another one on
abbrev pub IsReplyInTime : ℕ → ℕ → ReplyRequest → Type 0
IsReplyInTime now from asks.Nothing = Unit {0}
IsReplyInTime now from (asks.Change c) = (from ≤ c.moment) × (c.moment ≤ 1000000000000000)
IsReplyInTime now from (asks.Until moment) = (now ≤ moment) × (moment ≤ 1000000000000000)
IsReplyInTime now from (asks.End moment) = (now ≤ moment) × (moment ≤ 1000000000000000)

-- the moment up to which a talk has come after a line, in microseconds, where it had come to another before it
abbrev pub reply_moment_after : ℕ → ReplyRequest → ℕ
reply_moment_after now asks.Nothing = now
reply_moment_after now (asks.Change c) = c.moment
reply_moment_after now (asks.Until moment) = moment
reply_moment_after now (asks.End moment) = moment

-- what comes of a line that asks for this: events, and the mark that all were given up to a moment, and when the next reaction is due
pub record Reply : Type 0 where
  pub request : ReplyRequest
  pub events : List Event
  pub moment : ℕ
  pub due : Option ℕ

abbrev pub reply_text : Reply → List ℕ
reply_text r = trace_text r.events ++ ready_text r.moment r.due

-- the moment up to which a talk has come after these replies
abbrev pub come_to : ℕ → List Reply → ℕ
come_to now [] = now
come_to now (r ∷ rs) = come_to r.moment rs

-- WHAT WAITS FOR A LINE: no change of the host does, and the bus takes each change that the clock lets pass.
pub record IsReady {S : Type 0} (waiting : S → Option Change) (from : S → ℕ) (x : S) (clock : Clock) : Type 0 where
  pub none : waiting x ≡ None
  pub first : from x ≤ clock.from
  pub near : clock.from ≤ clock.moment + 1

module _ {S Start : Type 0} (gave : S → Start → List Event → Type 0) (due : S → Option ℕ → Type 0) where
  -- WHAT COMES OF A LINE, where the talk had come to a moment: from each start from which the bus had come, it has come by these events, the host's among them are what the line asked for, the mark names
  -- the moment up to which the talk has come now, and the reaction that is due next as the bus stands after them.
  pub record IsReply (r : Reply) (now : ℕ) (x y : S) : Type 0 where
    pub leads : (s : Start) (es : List Event) → gave x s es → gave y s (es ++ r.events)
    pub hosts : changes_of_host r.events ≡ changes_in r.request
    pub moment : r.moment ≡ reply_moment_after now r.request
    pub next : due y r.due

  -- what comes of lines, each in its turn: the bus and the moment are those that the line before left
  abbrev pub AreReplies : List Reply → ℕ → S → S → Type 0
  AreReplies [] now x y = x ≡ y
  AreReplies (r ∷ rs) now x y = (z : S) × IsReply r now x z × AreReplies rs r.moment z y

  -- A LINE WAS ANSWERED: what comes of it was written, the events and then the mark.
  pub record HasAnswered (a b : Option (List ℕ)) (now : ℕ) (request : ReplyRequest) (x y : S) : Type 0 where
    pub reply : Reply
    pub asked : reply.request ≡ request
    pub comes : IsReply reply now x y
    pub written : Appends a b (reply_text reply)

  -- LINES WERE ANSWERED from the moment 0 on, each in its turn: so all their events, in this order, are what the bus gave.
  pub record HaveAnswered (a b : Option (List ℕ)) (x y : S) : Type 0 where
    pub replies : List Reply
    pub come : AreReplies replies 0 x y
    pub leads : (s : Start) (es : List Event) → gave x s es → gave y s (es ++ flat_map (λ r. r.events) replies)
    pub written : Appends a b (flat_map reply_text replies)
