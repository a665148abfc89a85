-- Each step keeps the rule of a cell.
use Rattle.std.proofs.Common.{◌≡◌, ◌≢◌, ℕ, zero, suc, ◌+◌, List, [], ◌∷◌, ◌++◌, set, sym, refl, ap, ◌∙◌, subst, le_refl, le_trans}
use Rattle.std.specs.Prelude.{All}
use Rattle.std.proofs.lemmas.List.Elements.{All-set, All-push, All-weaker}
use Rattle.atomic_table.proofs.Lists.{set_again}
use mathlib.Core.Option.{some, some-injective}
use lib.ListN.{get_elem?}
use Rattle.crossbeam_utils.specs.Register.{Turns, Forks, Merges}
use Rattle.list_laws.proofs.Members.{all_at}
use Rattle.front_cell.specs.Front.{IsBehind}
use Rattle.front_cell.specs.Rule.{Follows, IsInStep}
use Rattle.front_cell.specs.Steps.{Stores, Loads, reader_of, after_join}
use Rattle.front_cell.specs.declared.front.Front.{Front}
use Rattle.front_cell.specs.declared.view.View.{View}
use Rattle.front_cell.specs.declared.view.View.TheVariants.{Wrote, Saw, Spent}

pub behind-refl : (front : Front) → IsBehind front front
behind-refl front = record { rows = le_refl front.rows; closed = λ c. c }

pub behind-trans : (x y z : Front) → IsBehind x y → IsBehind y z → IsBehind x z
behind-trans x y z before after = record { rows = le_trans before.rows after.rows; closed = λ c. after.closed (before.closed c) }

follows_on : (x y : Front) → IsBehind x y → (v : View) → Follows x v → Follows y v
follows_on x y ahead (Wrote front stores joined) h = h
follows_on x y ahead (Saw seen loads) h = behind-trans seen x y h ahead
follows_on x y ahead Spent h = tt

-- The contents in a writer's view, and whether a view is the writer's.
abbrev wrote_of : Front → View → Front
wrote_of other (Wrote front stores joined) = front
wrote_of other _ = other

abbrev IsWrote : View → Type 0
IsWrote (Wrote front stores joined) = Unit {0}
IsWrote _ = ⊥

-- What holds of the views, in the form in which the rule has it.
in_form : (x : Front) (views : List View) (P : List View → Type 0) (h : IsInStep x views) → P (Wrote x h.stores h.joined ∷ h.others) → P views
in_form x views P h p = subst P (sym h.writer) p

-- The writer has the first view, with the contents of the cell.
writer_is : (x front : Front) (s j stores joined : ℕ) (others : List View) (pass : ℕ) → All (Follows x) others
    → get_elem? (Wrote x s j ∷ others) pass ≡ some (Wrote front stores joined) → (pass ≡ 0) × (x ≡ front)
writer_is x front s j stores joined others zero all at = (refl, ap (wrote_of x) (some-injective (Wrote x s j) (Wrote front stores joined) at))
writer_is x front s j stores joined others (suc pass) all at = absurd (all_at (Follows x) others pass (Wrote front stores joined) all at)

-- The writer's view may become another one with the new contents of the cell, where no reader is newer.
write_at : (x front next : Front) (s j stores joined made more : ℕ) (others : List View) (pass : ℕ) → All (Follows x) others
    → get_elem? (Wrote x s j ∷ others) pass ≡ some (Wrote front stores joined) → IsBehind front next
    → IsInStep next (set (Wrote x s j ∷ others) pass (Wrote next made more))
write_at x front next s j stores joined made more others zero all at ahead =
    let same = writer_is x front s j stores joined others 0 all at in
    let on : IsBehind x next = subst (λ (y : Front). IsBehind y next) (sym same.1) ahead in
    record { stores = made; joined = more; others = others; writer = refl; readers = All-weaker (Follows x) (Follows next) (follows_on x next on) others all }
write_at x front next s j stores joined made more others (suc pass) all at ahead = absurd (all_at (Follows x) others pass (Wrote front stores joined) all at)

-- The same for the rule.
writes : (x : Front) (views : List View) (h : IsInStep x views) (pass : ℕ) (front next : Front) (stores joined made more : ℕ)
    → get_elem? views pass ≡ some (Wrote front stores joined) → IsBehind front next
    → IsInStep next (set views pass (Wrote next made more))
writes x views h pass front next stores joined made more at ahead =
    let P : List View → Type 0 = λ vs. get_elem? vs pass ≡ some (Wrote front stores joined) → IsInStep next (set vs pass (Wrote next made more)) in
    in_form x views P h (λ e. write_at x front next h.stores h.joined stores joined made more h.others pass h.readers e ahead) at

-- The place of the writer's view, and the contents of the cell.
writer_at : (x : Front) (views : List View) (h : IsInStep x views) (pass : ℕ) (front : Front) (stores joined : ℕ)
    → get_elem? views pass ≡ some (Wrote front stores joined) → (pass ≡ 0) × (x ≡ front)
writer_at x views h pass front stores joined at =
    let P : List View → Type 0 = λ vs. get_elem? vs pass ≡ some (Wrote front stores joined) → (pass ≡ 0) × (x ≡ front) in
    in_form x views P h (λ e. writer_is x front h.stores h.joined stores joined h.others pass h.readers e) at

-- A store that does not go back.
pub stores : (pass : ℕ) (v : View) (front next : Front) (made joined : ℕ) → v ≡ Wrote front made joined → IsBehind front next
    → Turns IsInStep pass v (λ _. next) Stores
stores pass v front next made joined is ahead x views h at =
    let w : View = Wrote next (made + 1) joined in
    (w, writes x views h pass front next made joined (made + 1) joined (at ∙ ap some is) ahead, subst (λ (y : View). Stores y x next w) (sym is) refl)

reader_at : (x seen : Front) (s j loads : ℕ) (w : View) (others : List View) (pass : ℕ) → All (Follows x) others
    → get_elem? (Wrote x s j ∷ others) pass ≡ some (Saw seen loads) → Follows x w
    → IsInStep x (set (Wrote x s j ∷ others) pass w) × IsBehind seen x
reader_at x seen s j loads w others zero all at f = absurd (subst IsWrote (some-injective (Wrote x s j) (Saw seen loads) at) tt)
reader_at x seen s j loads w others (suc pass) all at f = (
  record { stores = s; joined = j; others = set others pass w; writer = refl; readers = All-set (Follows x) others pass w f all },
  all_at (Follows x) others pass (Saw seen loads) all at,
)

-- A reader's view may become any that follows the cell.
reads_on : (x : Front) (views : List View) (h : IsInStep x views) (pass : ℕ) (seen : Front) (loads : ℕ) (w : View)
    → get_elem? views pass ≡ some (Saw seen loads) → Follows x w
    → IsInStep x (set views pass w) × IsBehind seen x
reads_on x views h pass seen loads w at f =
    let P : List View → Type 0 = λ vs. get_elem? vs pass ≡ some (Saw seen loads) → IsInStep x (set vs pass w) × IsBehind seen x in
    in_form x views P h (λ e. reader_at x seen h.stores h.joined loads w h.others pass h.readers e f) at

-- A load.
pub loads : (pass : ℕ) (v : View) (seen : Front) (count : ℕ) → v ≡ Saw seen count → Turns IsInStep pass v (λ x. x) Loads
loads pass v seen count is x views h at =
    let w : View = Saw x (count + 1) in
    let on = reads_on x views h pass seen count w (at ∙ ap some is) (behind-refl x) in
    (w, on.0, subst (λ (y : View). Loads y x x w) (sym is) (refl, on.1))

-- One more view that follows the cell.
grows : (x : Front) (views : List View) (w : View) → IsInStep x views → Follows x w → IsInStep x (views ++ w ∷ [])
grows x views w h f =
    record {
      stores = h.stores;
      joined = h.joined;
      others = h.others ++ w ∷ [];
      writer = ap (λ vs. vs ++ w ∷ []) h.writer;
      readers =
          All-push (Follows x) h.others w h.readers f;
    }

-- A new reader, from the writer's view.
pub splits : (pass : ℕ) (v : View) (front : Front) (made joined : ℕ) → v ≡ Wrote front made joined → Forks IsInStep pass v v (reader_of v)
splits pass v front made joined is x views h at =
    let same : x ≡ front = (writer_at x views h pass front made joined (at ∙ ap some is)).1 in
    let begins : Follows x (reader_of v) = subst (λ (y : View). Follows x (reader_of y)) (sym is) (subst (λ (y : Front). IsBehind y x) same (behind-refl x)) in
    subst (λ vs. IsInStep x (vs ++ reader_of v ∷ [])) (sym (set_again views pass v at)) (grows x views (reader_of v) h begins)

-- A reader's view moves to a new pass.
pub hands_on : (pass : ℕ) (v : View) (seen : Front) (count : ℕ) → v ≡ Saw seen count → Forks IsInStep pass v Spent v
hands_on pass v seen count is x views h at =
    let on = reads_on x views h pass seen count Spent (at ∙ ap some is) tt in
    grows x (set views pass Spent) v on.0 (subst (Follows x) (sym is) on.1)

end_at : (x : Front) (s j : ℕ) (others : List View) (other : ℕ) → All (Follows x) others → other ≢ 0 → IsInStep x (set (Wrote x s j ∷ others) other Spent)
end_at x s j others zero all apart = absurd (apart refl)
end_at x s j others (suc other) all apart =
    record { stores = s; joined = j; others = set others other Spent; writer = refl; readers = All-set (Follows x) others other Spent tt all }

-- The writer joins a reader, whose view ends.
pub joins : (pass : ℕ) (v : View) (front : Front) (made joined other : ℕ) (w : View) (seen : Front) (count : ℕ) → v ≡ Wrote front made joined
    → w ≡ Saw seen count
    → Merges IsInStep pass v other w (after_join v w) Spent
joins pass v front made joined other w seen count is reader x views h at apart there =
    let writer = writer_at x views h pass front made joined (at ∙ ap some is) in
    let both : View = Wrote x made (joined + count) in
    let both_is : both ≡ after_join v w =
    subst (λ (y : View). both ≡ after_join y w) (sym is)
    (subst (λ (y : View). both ≡ after_join (Wrote front made joined) y) (sym reader) (ap (λ f. Wrote f made (joined + count)) writer.1)) in
    let on : IsInStep x (set views pass both) =
    writes x views h pass front x made joined made (joined + count) (at ∙ ap some is) (subst (λ (y : Front). IsBehind y x) writer.1 (behind-refl x)) in
    let P : List View → Type 0 = λ vs. IsInStep x (set vs other Spent) in
    let ends : P (set views pass both) =
    in_form x (set views pass both) P on (end_at x on.stores on.joined on.others other on.readers (λ zero_is. apart (zero_is ∙ sym writer.0))) in
    subst (λ (y : View). P (set views pass y)) both_is ends
