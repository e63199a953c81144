-- Lines that are answered one by one.
use Rattle.std.proofs.Common.{◌≡◌, ℕ, List, [], ◌∷◌, ◌++◌, Option, Some, None, Ok, Err, refl, sym, ap, subst, ◌∙◌, append_assoc, append-nil}
use Rattle.std.specs.Prelude.{Result, OnOk, flat_map}
use Rattle.std.specs.Io.KnownBytes.{Appends, Keeps}
use Rattle.cbm_iec.specs.declared.event.Event.{Event}
use Rattle.bus_traces.specs.Events.{trace_text}
use Rattle.bus_traces.proofs.Appending.{appends-nothing, appends-more, appends-kept}
use Rattle.bus_replies.specs.Plays.{HasGivenEvents}
use Rattle.bus_replies.specs.Ready.{ready_text}
use Rattle.bus_replies.specs.declared.request.ReplyRequest.{ReplyRequest}
use Rattle.bus_replies.specs.Replies.{Reply, IsReply, AreReplies, reply_text, changes_in, come_to, reply_moment_after, HasAnswered, HaveAnswered}

abbrev events_of : List Reply → List Event
events_of replies = flat_map (λ r. r.events) replies

abbrev text_of : List Reply → List ℕ
text_of replies = flat_map reply_text replies

events_on : (xs ys : List Reply) → events_of (xs ++ ys) ≡ events_of xs ++ events_of ys
events_on [] ys = refl
events_on (x ∷ xs) ys = ap (λ t. x.events ++ t) (events_on xs ys) ∙ sym (append_assoc x.events (events_of xs) (events_of ys))

text_on : (xs ys : List Reply) → text_of (xs ++ ys) ≡ text_of xs ++ text_of ys
text_on [] ys = refl
text_on (x ∷ xs) ys = ap (λ t. reply_text x ++ t) (text_on xs ys) ∙ sym (append_assoc (reply_text x) (text_of xs) (text_of ys))

come_to_last : (now : ℕ) (rs : List Reply) (r : Reply) → come_to now (rs ++ r ∷ []) ≡ r.moment
come_to_last now [] r = refl
come_to_last now (x ∷ rs) r = come_to_last x.moment rs r

module _ {S Start : Type 0} (gave : S → Start → List Event → Type 0) (due : S → Option ℕ → Type 0) where
  -- what was given, and the mark after it
  pub marked : (a b c : Option (List ℕ)) (now : ℕ) (request : ReplyRequest) (x y : S) (moment : ℕ) (next : Option ℕ) → HasGivenEvents gave a b (changes_in request) x y → moment ≡ reply_moment_after now request → due y next
      → Appends b c (ready_text moment next) → HasAnswered gave due a c now request x y
  marked a b c now request x y moment next h m d w = record {
    reply = record { request = request; events = h.events; moment = moment; due = next };
    asked = refl;
    comes = record { leads = h.leads; hosts = h.hosts; moment = m; next = d };
    written = appends-more a b c (trace_text h.events) (ready_text moment next) h.written w;
  }

  pub none_answered : (a : Option (List ℕ)) (x : S) → (h : HaveAnswered gave due a a x x) × (0 ≡ come_to 0 h.replies)
  none_answered a x = (
    record {
      replies = [];
      come = refl;
      leads = λ s es k. subst (λ v. gave x s v) (sym (append-nil es)) k;
      written = appends-nothing a;
    },
    refl,
  )

  pub kept_answered : (a b c : Option (List ℕ)) (x y : S) → HaveAnswered gave due a b x y → Keeps b c → HaveAnswered gave due a c x y
  kept_answered a b c x y h k = record {
    replies = h.replies;
    come = h.come;
    leads = h.leads;
    written = appends-kept a b c (text_of h.replies) h.written k;
  }

  -- one line more, at the moment to which those before have come
  come_on : (rs : List Reply) (r : Reply) (now : ℕ) (x y z : S) → AreReplies gave due rs now x y → IsReply gave due r (come_to now rs) y z → AreReplies gave due (rs ++ r ∷ []) now x z
  come_on [] r now x y z h k = (z, subst (λ w. IsReply gave due r now w z) (sym h) k, refl)
  come_on (q ∷ rs) r now x y z h k = (h.0, h.1, come_on rs r q.moment h.0 y z h.2 k)

  answered_on : (a b c : Option (List ℕ)) (now : ℕ) (request : ReplyRequest) (x y z : S) (h : HaveAnswered gave due a b x y) → now ≡ come_to 0 h.replies → (k : HasAnswered gave due b c now request y z)
      → (v : HaveAnswered gave due a c x z) × (reply_moment_after now request ≡ come_to 0 v.replies)
  answered_on a b c now request x y z h at k = (
    record {
      replies = h.replies ++ k.reply ∷ [];
      come = come_on h.replies k.reply 0 x y z h.come (subst (λ n. IsReply gave due k.reply n y z) at k.comes);
      leads = λ s es i. subst (λ v. gave z s v) (append_assoc es (events_of h.replies) k.reply.events ∙ ap (λ v. es ++ v) (sym (events_on h.replies (k.reply ∷ []) ∙ ap (λ v. events_of h.replies ++ v) (append-nil k.reply.events))))
          (k.comes.leads s (es ++ events_of h.replies) (h.leads s es i));
      written = subst (λ t. Appends a c t) (sym (text_on h.replies (k.reply ∷ []) ∙ ap (λ t. text_of h.replies ++ t) (append-nil (reply_text k.reply)))) (appends-more a b c (text_of h.replies) (reply_text k.reply) h.written k.written);
    },
    sym (come_to_last 0 h.replies k.reply ∙ (k.comes.moment ∙ ap (λ q. reply_moment_after now q) k.asked)),
  )

  -- one line more, and the moment to which the talk has come then
  pub one_more : (a b c d : Option (List ℕ)) (now : ℕ) (request : ReplyRequest) (x y z : S) (h : HaveAnswered gave due a b x y) → now ≡ come_to 0 h.replies → Keeps b c → (k : HasAnswered gave due c d now request y z)
      → (v : HaveAnswered gave due a d x z) × (reply_moment_after now request ≡ come_to 0 v.replies)
  unfolding kept_answered
  one_more a b c d now request x y z h at keeps k = answered_on a c d now request x y z (kept_answered a b c x y h keeps) at k

pub on_ok : {A E : Type 0} {P Q : Type 0} (r : Result A E) → OnOk r P → (P → Q) → OnOk r Q
on_ok (Ok x) h f = f h
on_ok (Err e) h f = tt

pub known_ok : {A E : Type 0} {P : Type 0} (r : Result A E) → P → OnOk r P
known_ok (Ok x) p = p
known_ok (Err e) p = tt
