-- A table, one record after the other.
use Rattle.std.proofs.Common.{ℕ, List, [], ◌∷◌, ◌++◌, ap, sym, subst, ◌∙◌, append_assoc, append-nil}
use Rattle.stimulus_tables.specs.Tables.{BeginsTable, Fields, Follow, MayFollow}
use Rattle.stimulus_tables.specs.declared.moment.Moment.{Moment}

follow_more : (names : List (List ℕ)) (before : List Moment) (front : List Fields) (moments : List Moment) (fields : Fields) (moment : Moment)
    → Follow names before front moments → MayFollow names (before ++ moments) fields moment → Follow names before (front ++ (fields ∷ [])) (moments ++ (moment ∷ []))
follow_more names before [] [] fields moment follow next = (subst (λ all. MayFollow names all fields moment) (append-nil before) next, tt)
follow_more names before [] (one ∷ moments) fields moment follow next = absurd follow
follow_more names before (first ∷ front) [] fields moment follow next = absurd follow
follow_more names before (first ∷ front) (one ∷ moments) fields moment follow next = (
  follow.0,
  follow_more names (before ++ (one ∷ [])) front moments fields moment follow.1
      (subst (λ all. MayFollow names all fields moment) (sym (append_assoc before (one ∷ []) moments)) next),
)

-- The next of the records that are left is that of a moment that may follow.
pub table_more : (records : List Fields) (names : List (List ℕ)) (moments : List Moment) (fields : Fields) (left : List Fields) (moment : Moment)
    → BeginsTable records names moments (fields ∷ left) → MayFollow names moments fields moment → BeginsTable records names (moments ++ (moment ∷ [])) left
table_more records names moments fields left moment begins next = record {
  head = begins.head;
  front = begins.front ++ (fields ∷ []);
  cut = begins.cut ∙ ap (λ rest. begins.head ∷ rest) (sym (append_assoc begins.front (fields ∷ []) left));
  is_head = begins.is_head;
  follow = follow_more names [] begins.front moments fields moment begins.follow next;
}
