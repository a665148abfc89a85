-- What is done for one instance, and the result of settling.
use Rattle.std.proofs.Common.{◌≡◌, ◌∙◌, ℕ, [], ◌∷◌, inl, inr, refl, sym, ap, subst, arith}
use Rattle.spec_core.specs.Events.{Happens}
use Rattle.spec_core.specs.Rounds.{AreFew, Serves, with_reply}
use Rattle.spec_core.specs.Worlds.{WorldState}
use Rattle.spec_core.specs.declared.event.Event.TheVariants as event
use Rattle.spec_core.specs.declared.event.Reply.{Reply}
use Rattle.spec_core.specs.declared.event.Reply.TheVariants as reply
use Rattle.spec_core.specs.declared.replies.Replies.{Replies}
use Rattle.spec_core.proofs.DoneLaws.{done}
use Rattle.trace_core.specs.Runs.{IsWanted}
use Rattle.trace_core.specs.Settling.{Settled}
use Rattle.trace_core.specs.declared.phase.Settle.{Settle}

-- Nothing is done where no step is required.
pub serves_none : (instance : ℕ) (from : WorldState) (told : Replies) → (IsWanted from.run instance → ⊥) → AreFew told → Serves instance from told from told
serves_none instance from told unwanted few =
    record { past = []; serves = unwanted; leads = refl; counted = refl; few = few; most = omega arith }

-- A required step is found, where it is not missed.
is_found : (instance : ℕ) (from to : WorldState) (said : Reply) → IsWanted from.run instance → Happens from (event.Find instance) said to
    → (said ≡ reply.Missed → ⊥) → said ≡ reply.Found
is_found instance from to said wanted (inl (inl finds)) not = finds.replied
is_found instance from to said wanted (inl (inr misses)) not = absurd (not misses.replied)
is_found instance from to said wanted (inr refuses) not = absurd (refuses.refused wanted)

pub serves_found : (instance : ℕ) (from to : WorldState) (told now : Replies) (said : Reply) → IsWanted from.run instance
    → Happens from (event.Find instance) said to → (said ≡ reply.Missed → ⊥) → now ≡ with_reply told said → AreFew now → Serves instance from told to now
serves_found instance from to told now said wanted happens not counted few = record {
  past = done from (event.Find instance) said to ∷ [];
  serves = (wanted, refl, is_found instance from to said wanted happens not);
  leads = (refl, happens, refl);
  counted = counted;
  few = few;
  most = let one = ap (λ (counts : Replies). counts.events) counted in omega (arith, one);
}

-- Where it is missed it is made.
pub serves_made : (instance : ℕ) (from middle to : WorldState) (told mid now : Replies) (missed said : Reply) → IsWanted from.run instance
    → Happens from (event.Find instance) missed middle → missed ≡ reply.Missed → mid ≡ with_reply told missed
    → Happens middle (event.Compute instance) said to → now ≡ with_reply mid said → AreFew now → Serves instance from told to now
serves_made instance from middle to told mid now missed said wanted finds is_missed counted makes counted_too few = record {
  past = done from (event.Find instance) missed middle ∷ done middle (event.Compute instance) said to ∷ [];
  serves = (wanted, refl, is_missed, refl);
  leads = (refl, finds, (refl, makes, refl));
  counted = counted_too ∙ ap (λ counts. with_reply counts said) counted;
  few = few;
  most =
      let one = ap (λ (counts : Replies). counts.events) counted in
      let two = ap (λ (counts : Replies). counts.events) counted_too in
      omega (arith, one, two);
}

same_settled : (one other : Settle) → reply.Settled one ≡ reply.Settled other → one ≡ other
same_settled one other is = cc

-- The reply is the result.
pub settled_so : (from to : WorldState) (settled : Settle) → Happens from event.Settle (reply.Settled settled) to → Settled from.run to.run settled
settled_so from to settled (inl does) = subst (Settled from.run to.run) (same_settled does.to settled (sym does.replied)) does.settled
settled_so from to settled (inr refuses) = absurd (differ refuses.replied)
  where
    differ : reply.Settled settled ≡ reply.Refused → ⊥
    differ is = cc
