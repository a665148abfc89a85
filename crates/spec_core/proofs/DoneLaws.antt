-- Events that were applied and counted, one after the other.
use Rattle.std.proofs.Common.{◌≡◌, ◌∙◌, ℕ, zero, suc, ◌+◌, List, [], ◌∷◌, ◌++◌, length, map, refl, sym, ap, subst, arith, append-nil}
use Rattle.std.proofs.Common.{add-one, add-zero, append_assoc, length-append}
use Rattle.std.proofs.lemmas.List.FromFn.{length-map-range_with_len, map-range_with_len_more}
use Rattle.std.specs.List.{range_with_len}
use Rattle.draw_numbers.specs.Draws.{draw, next_draw}
use Rattle.spec_core.specs.Events.{Happens}
use Rattle.spec_core.specs.Interleavings.{Done, Leads}
use Rattle.spec_core.specs.Replays.{AreServed, IsServed, events_of, worker_event}
use Rattle.spec_core.specs.Rounds.{AreFew, AreServedAll, DoesAll, Serves, before_draw, draw_after, drawn_from, publishes, with_replies, with_reply}
use Rattle.spec_core.specs.Worlds.{WorldState}
use Rattle.spec_core.specs.declared.event.Event.{Event}
use Rattle.spec_core.specs.declared.event.Event.TheVariants as event
use Rattle.spec_core.specs.declared.event.Reply.{Reply}
use Rattle.spec_core.specs.declared.replies.Replies.{Replies}

-- ---- Histories

pub leads_append : (past more : List Done) (from middle to : WorldState) → Leads from past middle → Leads middle more to → Leads from (past ++ more) to
leads_append [] more from middle to is leads = subst (λ world. Leads world more to) (sym is) leads
leads_append (one ∷ others) more from middle to (begins, happens, rest) leads =
    (begins, happens, leads_append others more one.after middle to rest leads)

pub replies_append : (counts : Replies) (past more : List Done) → with_replies counts (past ++ more) ≡ with_replies (with_replies counts past) more
replies_append counts [] more = refl
replies_append counts (one ∷ others) more = replies_append (with_reply counts one.reply) others more

events_append : (past more : List Done) → events_of (past ++ more) ≡ events_of past ++ events_of more
events_append [] more = refl
events_append (one ∷ others) more = ap (λ events. one.event ∷ events) (events_append others more)

abbrev pub done : WorldState → Event → Reply → WorldState → Done
done before what said after = record { before = before; event = what; reply = said; after = after }

pub counted_more : (told mid now : Replies) (past : List Done) (one : Done) → mid ≡ with_replies told past → now ≡ with_reply mid one.reply
    → now ≡ with_replies told (past ++ one ∷ [])
counted_more told mid now past one so_far is =
    is ∙ ap (λ counts. with_reply counts one.reply) so_far ∙ sym (replies_append told past (one ∷ []))

-- ---- Events in turn

pub does_none : (from : WorldState) (told : Replies) → AreFew told → DoesAll [] from told from told
does_none from told few = record { past = []; events_are = refl; leads = refl; counted = refl; few = few; number = sym (add-zero told.events) }

pub does_more : (events : List Event) (what : Event) (said : Reply) (from middle to : WorldState) (told mid now : Replies) → DoesAll events from told middle mid
    → Happens middle what said to → now ≡ with_reply mid said → AreFew now → DoesAll (events ++ what ∷ []) from told to now
does_more events what said from middle to told mid now did happens is few = record {
  past = did.past ++ done middle what said to ∷ [];
  events_are = events_append did.past (done middle what said to ∷ []) ∙ ap (λ es. es ++ what ∷ []) did.events_are;
  leads = leads_append did.past (done middle what said to ∷ []) from middle to did.leads (refl, happens, refl);
  counted = counted_more told mid now did.past (done middle what said to) did.counted is;
  few = few;
  number =
      let one = ap (λ (counts : Replies). counts.events) is in
      let before = did.number in
      let long = length-append events (what ∷ []) in
      omega (arith, one, before, long);
}

pub publishes_more : (instance : ℕ) → publishes (instance + 1) ≡ publishes instance ++ event.Publish instance ∷ []
publishes_more instance = map-range_with_len_more event.Publish 0 instance instance (omega arith)

pub length-publishes : (instances : ℕ) → length (publishes instances) ≡ instances
length-publishes instances = length-map-range_with_len event.Publish 0 instances

pub length-drawn_from : (x workers instances count : ℕ) → length (drawn_from x workers instances count) ≡ count
length-drawn_from x workers instances zero = refl
length-drawn_from x workers instances (suc count) =
    let before = length-drawn_from x workers instances count in
    let long = length-append (drawn_from x workers instances count) (worker_event (draw_after x (suc count)) workers instances ∷ []) in
    omega (arith, before, long)

pub drawn_more : (x workers instances count : ℕ)
    → drawn_from x workers instances (count + 1) ≡ drawn_from x workers instances count ++ worker_event (next_draw (draw_after x count)) workers instances ∷ []
drawn_more x workers instances count = ap (drawn_from x workers instances) (add-one count)

pub draw_more : (x count : ℕ) → draw_after x (count + 1) ≡ next_draw (draw_after x count)
draw_more x count = ap (draw_after x) (add-one count)

-- ---- Draws

next_is : (seed place : ℕ) → next_draw (before_draw seed place) ≡ draw seed place
next_is seed zero = refl
next_is seed (suc place) = refl

later : (a b : ℕ) → a + suc b ≡ suc (a + b)
later a b = omega arith

pub draws_on : (seed place x count : ℕ) → x ≡ before_draw seed place → draw_after x count ≡ before_draw seed (place + count)
draws_on seed place x zero is = is ∙ ap (before_draw seed) (sym (add-zero place))
draws_on seed place x (suc count) is =
    ap next_draw (draws_on seed place x count is) ∙ next_is seed (place + count) ∙ ap (before_draw seed) (sym (later place count))

pub drawn_are : (seed place x workers instances count : ℕ) → x ≡ before_draw seed place
    → drawn_from x workers instances count ≡ map (λ at. worker_event (draw seed at) workers instances) (range_with_len place count)
drawn_are seed place x workers instances zero is = refl
drawn_are seed place x workers instances (suc count) is =
    ap (λ events. events ++ worker_event (draw_after x (suc count)) workers instances ∷ []) (drawn_are seed place x workers instances count is)
    ∙ ap (λ y. map (λ at. worker_event (draw seed at) workers instances) (range_with_len place count) ++ worker_event y workers instances ∷ [])
    (draws_on seed place x (suc count) is ∙ ap (before_draw seed) (later place count))
    ∙ sym (map-range_with_len_more (λ at. worker_event (draw seed at) workers instances) place count (place + count) refl)
    ∙ ap (λ n. map (λ at. worker_event (draw seed at) workers instances) (range_with_len place n)) (add-one count)

-- ---- Instances in turn

served_leads : (count instance : ℕ) (from : WorldState) (past : List Done) (to : WorldState) → AreServed from instance count past to → Leads from past to
served_leads zero instance from past to (none, same) = subst (λ all. Leads from all to) (sym none) same
served_leads (suc count) instance from past to (first, middle, others, is, served, leads, rest) =
    subst (λ all. Leads from all to) (sym is) (leads_append first others from middle to leads (served_leads count (suc instance) middle others to rest))

pub all_served_leads : (instances : ℕ) (from to : WorldState) (past : List Done) → AreServed from 0 instances past to → Leads from past to
all_served_leads instances from to past serves = served_leads instances 0 from past to serves

served_more : (count instance : ℕ) (from : WorldState) (past : List Done) (to : WorldState) (more : List Done) (after : WorldState)
    → AreServed from instance count past to → IsServed to.run (instance + count) more → Leads to more after
    → AreServed from instance (suc count) (past ++ more) after
served_more zero instance from past to more after (none, same) served leads = (
  more,
  after,
  [],
  ap (λ all. all ++ more) none ∙ sym (append-nil more),
  subst (λ (world : WorldState). IsServed world.run instance more) (sym same)
      (subst (λ place. IsServed to.run place more) (add-zero instance) served),
  subst (λ world. Leads world more after) (sym same) leads,
  (refl, refl),
)
served_more (suc count) instance from past to more after (first, middle, others, is, served_first, leads_first, rest) served leads = (
  first,
  middle,
  others ++ more,
  ap (λ all. all ++ more) is ∙ append_assoc first others more,
  served_first,
  leads_first,
  served_more count (suc instance) middle others to more after rest
      (subst (λ place. IsServed to.run place more) (place_is instance count) served) leads,
)
  where
    place_is : (a b : ℕ) → a + suc b ≡ suc a + b
    place_is a b = omega arith

pub served_none : (from : WorldState) (told : Replies) → AreFew told → AreServedAll 0 from told from told
served_none from told few = record { past = []; serves = (refl, refl); counted = refl; few = few; most = omega arith }

pub served_next : (instance : ℕ) (from middle to : WorldState) (told mid now : Replies) → AreServedAll instance from told middle mid
    → Serves instance middle mid to now → AreServedAll (instance + 1) from told to now
served_next instance from middle to told mid now all one = record {
  past = all.past ++ one.past;
  serves = subst (λ count. AreServed from 0 count (all.past ++ one.past) to) (sym (add-one instance))
      (served_more instance 0 from all.past middle one.past to all.serves
      (subst (λ place. IsServed middle.run place one.past) (from_none instance) one.serves) one.leads);
  counted = one.counted ∙ ap (λ counts. with_replies counts one.past) all.counted ∙ sym (replies_append told all.past one.past);
  few = one.few;
  most =
      let before = all.most in
      let two = one.most in
      omega (arith, before, two);
}
  where
    from_none : (n : ℕ) → n ≡ 0 + n
    from_none n = omega arith
