-- A position of a composition whose outputs have an order has exactly one rest, and the first one exactly one trace.
use Rattle.std.proofs.Common.{◌≡◌, ℕ, zero, suc, ◌+◌, ◌-◌, ◌*◌, ◌<◌, ◌≤◌, ◌==◌, cond, Bool, true, false, List, [], ◌∷◌, Option, Some, None, refl, ap}
use Rattle.std.proofs.Common.{sym, subst, ◌∙◌, arith}
use Rattle.std.proofs.lemmas.Bool.Decides.{nat_tests}
use Rattle.std.specs.Prelude.{◌&&◌}
use Rattle.std.proofs.lemmas.Slice.Zip.{AllZip-long}
use Rattle.super_time.specs.declared.point.Point.{Point}
use Rattle.unit_tree.specs.Compositions.{Composition, AreMembers, run_of}
use Rattle.unit_tree.specs.Ports.{IsPlaceOrder, IsAssignment, first_some}
use Rattle.run_laws.specs.RestLaws.{HasOneRest}
use Rattle.run_laws.specs.RunLaws.{HasOneTrace, HasOneTraceOf}
use Rattle.unit_tree.specs.Successor.{Position, when, first_position, limits, agreed, ends_at, ends_or, after, goes, zero_end}
use Rattle.unit_tree.specs.Trace.{Stand, IsStand, Goes, Follows, GoesOnFrom, HasWords, rows_of, last_point, cells_of, IsInBounds}
use Rattle.unit_tree.specs.declared.ending.Ending.{Ending}
use Rattle.unit_tree.specs.declared.system.System.{System}
use Rattle.run_laws.proofs.AssignmentLaws.{none_at, one_assignment}
use Rattle.run_laws.proofs.PositionLaws.{positions_keep, agreed_is_at_most}
use Rattle.run_laws.proofs.StepLaws.{proposal_is_greatest}

-- ---- The rest of a run, in steps

abbrev pub left_at : Composition → Point → ℕ
left_at run point = (run.stop - point.t) * (run.zero_budget + 1) + (run.zero_budget - point.n)

abbrev pub left : Composition → Position → ℕ
left run at = left_at run at.point

pub when_none : {A : Type 0} (test : Bool) (given : A) → when test given ≡ None → test ≡ false
when_none false given is = refl
when_none true given is = absurd (cc)

-- With whether the step has the length zero.
pub record Nearer (run : Composition) (point next : Point) : Type 0 where
  pub stop : next.t ≤ run.stop
  pub zeros : next.n ≤ run.zero_budget
  pub less : left_at run next < left_at run point

pub nearer_zero : (run : Composition) (point : Point) → point.t ≤ run.stop → point.n ≤ run.zero_budget → (point.n == run.zero_budget) ≡ false
    → Nearer run point (record { t = point.t; n = suc point.n })
nearer_zero run point within zeros not_last =
    let more : point.n < run.zero_budget = grind (arith, nat_tests) in
    record { stop = within; zeros = omega arith; less = omega arith }

pub further : (ticks h zeros n : ℕ) → ticks * (zeros + 1) + zeros < (ticks + suc h) * (zeros + 1) + (zeros - n)
further ticks h zeros n = omega arith

pub nearer_on : (run : Composition) (point : Point) (h : ℕ) → point.t ≤ run.stop → suc h ≤ run.stop - point.t
    → Nearer run point (record { t = point.t + suc h; n = 0 })
nearer_on run point h within fits =
    let longer : run.stop - point.t ≡ (run.stop - (point.t + suc h)) + suc h = omega arith in
    let less = further (run.stop - (point.t + suc h)) h run.zero_budget point.n in
    record { stop = omega arith; zeros = omega arith; less = rw longer (omega (arith, less)) }

pub nearer_by : (waits : Bool) (run : Composition) (point : Point) (h : ℕ) → point.t ≤ run.stop → point.n ≤ run.zero_budget → h ≤ run.stop - point.t
    → (h == 0) ≡ waits → (waits && (point.n == run.zero_budget)) ≡ false
    → Nearer run point (cond waits (record { t = point.t; n = suc point.n }) (record { t = point.t + h; n = 0 }))
nearer_by true run point h within zeros fits is open_budget = nearer_zero run point within zeros open_budget
nearer_by false run point zero within zeros fits is open_budget = absurd (cc)
nearer_by false run point (suc h) within zeros fits is open_budget = nearer_on run point h within fits

pub next_is_nearer : (run : Composition) (stand : Stand) → AreMembers run → HasWords run stand.at → IsInBounds run stand.at
    → first_some (ends_at run stand.at stand.ports) ≡ None → Nearer run stand.at.point (after run stand.at stand.ports).point
next_is_nearer run stand are words within none =
    let h = agreed run stand.at stand.ports in
    let open_budget : ((h == 0) && (stand.at.point.n == run.zero_budget)) ≡ false =
    when_none _ _ (none_at (ends_at run stand.at stand.ports) 6 (zero_end run stand.at stand.ports) none refl) in
    let allowed = (proposal_is_greatest run.stop run.longest stand.at.point.t (limits run stand.at stand.ports)).holds.within_stop in
    let at_most = agreed_is_at_most run stand.at stand.ports are words in
    nearer_by (h == 0) run stand.at.point h within.stop within.zeros (omega (arith, allowed, at_most)) refl open_budget

-- ---- The next stand

pub position_by : (end : Option Ending) (position next : Position) → ends_or end position ≡ goes next → position ≡ next
position_by None position next is = cc
position_by (Some ending) position next is = absurd (cc)

pub goes_to : (run : Composition) (here next : Stand) → Goes run here next → after run here.at here.ports ≡ next.at
goes_to run here next on = position_by (first_some (ends_at run here.at here.ports)) (after run here.at here.ports) next.at on.0

pub goes_keeps : (run : Composition) (here next : Stand) → AreMembers run → HasWords run here.at → Goes run here next → HasWords run next.at
goes_keeps run here next are words on = subst (HasWords run) (goes_to run here next on) ((positions_keep run are).next here.at here.ports words)

-- ---- There is a trace

abbrev pub Rest : Composition → Stand → Type 0
Rest run stand = (stands : List Stand) × (ending : Ending) × Follows run stand stands ending

module _ (run : Composition) (order : List ℕ) (are : AreMembers run) (is_order : IsPlaceOrder run order) where
  pub rest_by : (end : Option Ending) (stand : Stand) → first_some (ends_at run stand.at stand.ports) ≡ end
      → (end ≡ None → (next : Stand) × Goes run stand next × Rest run next) → Rest run stand
  rest_by (Some ending) stand is later = ([], ending, ap (λ end. ends_or end (after run stand.at stand.ports)) is)
  rest_by None stand is later = let next = later refl in (next.0 ∷ next.2.0, next.2.1, (next.1, next.2.2))

  pub rest_of : (more : ℕ) (stand : Stand) → left run stand.at < more → HasWords run stand.at → IsInBounds run stand.at → Rest run stand
  rest_of zero stand less words within = absurd (omega arith)
  rest_of (suc more) stand less words within =
      rest_by (first_some (ends_at run stand.at stand.ports)) stand refl (λ none.
      let nearer = next_is_nearer run stand are words within none in
      let kept = (positions_keep run are).next stand.at stand.ports words in
      let assigned =
      one_assignment run order (after run stand.at stand.ports).states is_order (AllZip-long _ run.members (after run stand.at stand.ports).states kept) in
      let next : Stand = record { at = after run stand.at stand.ports; ports = assigned.ports } in (
        next,
        (ap (λ end. ends_or end (after run stand.at stand.ports)) none, assigned.is_assignment),
        rest_of more next (omega (arith, nearer.less)) kept (record { stop = nearer.stop; zeros = nearer.zeros }),
      ))

  -- ---- There is no other

  pub same_stand : (one other : Stand) → HasWords run one.at → IsStand run one → IsStand run other → one.at ≡ other.at → one ≡ other
  same_stand one other words is_one is_other same =
      let assigned = one_assignment run order one.at.states is_order (AllZip-long _ run.members one.at.states words) in
      let ports : one.ports ≡ other.ports =
      assigned.is_only one.ports is_one
      ∙ sym (assigned.is_only other.ports (subst (λ (at : Position). IsAssignment run at.states other.ports) (sym same) is_other)) in
      ap (λ (at : Position). record { at = at; ports = one.ports }) same ∙ ap (λ ports. record { at = other.at; ports = ports }) ports

  pub goes_same : (here one other : Stand) → HasWords run here.at → Goes run here one → Goes run here other → one ≡ other
  goes_same here one other words to_one to_other =
      same_stand one other (goes_keeps run here one are words to_one) to_one.1 to_other.1 (sym (goes_to run here one to_one) ∙ goes_to run here other to_other)

  pub same_rest : (here : Stand) (xs ys : List Stand) (e f : Ending) → HasWords run here.at → Follows run here xs e → Follows run here ys f
      → (xs ≡ ys) × (e ≡ f)
  same_rest here [] [] e f words p q = (refl, cc)
  same_rest here [] (y ∷ ys) e f words p q = absurd (cc)
  same_rest here (x ∷ xs) [] e f words p q = absurd (cc)
  same_rest here (x ∷ xs) (y ∷ ys) e f words p q =
      let same : x ≡ y = goes_same here x y words p.0 q.0 in
      let others = same_rest y xs ys e f (goes_keeps run here y are words q.0) (subst (λ (z : Stand). Follows run z xs e) same p.1) q.1 in
      (ap (λ z. z ∷ xs) same ∙ ap (λ zs. y ∷ zs) others.0, others.1)

  pub same_rests : (at : Position) (xs ys : List Stand) (e f : Ending) → HasWords run at → GoesOnFrom run at xs e → GoesOnFrom run at ys f → (xs ≡ ys) × (e ≡ f)
  same_rests at [] ys e f words p q = absurd p
  same_rests at (x ∷ xs) [] e f words p q = absurd q
  same_rests at (x ∷ xs) (y ∷ ys) e f words p q =
      let same : x ≡ y = same_stand x y (subst (HasWords run) (sym p.0) words) p.1 q.1 (p.0 ∙ sym q.0) in
      let others = same_rest y xs ys e f (subst (HasWords run) (sym q.0) words) (subst (λ (z : Stand). Follows run z xs e) same p.2) q.2 in
      (ap (λ z. z ∷ xs) same ∙ ap (λ zs. y ∷ zs) others.0, others.1)

  pub one_rest : (at : Position) → HasWords run at → IsInBounds run at → HasOneRest run at
  one_rest at words within =
      let assigned = one_assignment run order at.states is_order (AllZip-long _ run.members at.states words) in
      let start : Stand = record { at = at; ports = assigned.ports } in
      let rest = rest_of (suc (left run at)) start (omega arith) words (record { stop = within.stop; zeros = within.zeros }) in
      record {
        stands = start ∷ rest.0;
        ending = rest.1;
        goes_on = (refl, assigned.is_assignment, rest.2);
        is_only = λ other end is. same_rests at other (start ∷ rest.0) end rest.1 words is (refl, assigned.is_assignment, rest.2);
      }

  -- a trace is the rest of the first position
  pub one_trace : HasOneTrace run
  one_trace =
      let one = one_rest (first_position run) (positions_keep run are).first (record { stop = omega arith; zeros = omega arith }) in
      record { stands = one.stands; ending = one.ending; is_trace = one.goes_on; is_only = one.is_only }

-- if the composition has one trace, the system has one list of rows, one last point, one ending and one count of
-- cells
pub one_trace_of : (system : System) → HasOneTrace (run_of system) → HasOneTraceOf system
one_trace_of system one = record {
  rows = rows_of (run_of system) one.stands;
  last = last_point one.stands;
  ending = one.ending;
  is_trace = record { stands = one.stands; trace = one.is_trace; rows_are = refl; last_is = refl };
  is_only = λ others point end other.
      let same = one.is_only other.stands end other.trace in
      (other.rows_are ∙ ap (rows_of (run_of system)) same.0, other.last_is ∙ ap last_point same.0, same.1);
  cells = cells_of (run_of system) one.stands;
  has_cells = record { stands = one.stands; ending = one.ending; trace = one.is_trace; is = refl };
  is_only_count = λ count other. other.is ∙ ap (cells_of (run_of system)) (one.is_only other.stands other.ending other.trace).0;
}
