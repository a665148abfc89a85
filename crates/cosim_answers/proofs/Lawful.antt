-- What holds of the answers of a command: there is one for each text, and all answers for a text write the same.
use Rattle.std.proofs.Common.{◌≡◌, ℕ, leb, ◌<◌, ◌≤◌, ◌⊎◌, true, false, List, length, Some, refl, sym, ap, subst, ◌∙◌, inl, inr, arith}
use Rattle.std.proofs.lemmas.Bool.Decides.{leb_tells}
use Rattle.std.proofs.lemmas.Option.{same_Some}
use Rattle.text_accept.specs.Accepting.{IsAcceptedAs, IsRefusedAt}
use Rattle.text_accept.proofs.Acceptance.{judged_once}
use Rattle.unit_tree.specs.declared.system.System.{System}
use Rattle.cosim_call.specs.Answers.{Answer, IsEndOfWork, piece_answer}
use Rattle.cosim_answers.specs.Accepted.{OnAccepted, RefusesAlso}
use Rattle.cosim_answers.specs.Limits.{AnswersWithin, RefusesWithin}
use Rattle.cosim_answers.proofs.TraceLaws.{IsWhole, whole_of}

-- A number is at most a limit or above it, and not both.
pub at_most_or_above : (n limit : ℕ) → (n ≤ limit) ⊎ (limit < n)
at_most_or_above n limit = by (leb_tells n limit)
  where
    by : ((leb n limit ≡ true) × (n ≤ limit)) ⊎ ((leb n limit ≡ false) × (limit < n)) → (n ≤ limit) ⊎ (limit < n)
    by (inl (told, most)) = inl most
    by (inr (told, above)) = inr above

-- ---- What a command has to ensure

-- Two answers write the same and have one status.
abbrev pub Agree : Answer → Answer → Type 0
Agree one other = (one.out ≡ other.out) × (one.status ≡ other.status)

pub agree_as_same : (one other : Answer) → one ≡ other → Agree one other
agree_as_same one other same = (ap (λ (x : Answer). x.out) same, ap (λ (x : Answer). x.status) same)

-- What holds of refusals and answers: each text is refused or served, and never both. It has at most one refusal. Answers for a text that
-- is served write the same and have one status, which is that of an end.
pub record IsLawful (Refuses : List ℕ → ℕ → ℕ → Type 0) (Serves : List ℕ → Answer → Type 0) : Type 0 where
  pub judged : (text : List ℕ) → ((line : ℕ) × (rule : ℕ) × Refuses text line rule) ⊎ ((answer : Answer) × Serves text answer)
  pub one_refusal : (text : List ℕ) (line by other rule : ℕ) → Refuses text line by → Refuses text other rule → (line ≡ other) × (by ≡ rule)
  pub not_both : (text : List ℕ) (line rule : ℕ) (answer : Answer) → Refuses text line rule → Serves text answer → ⊥
  pub agree : (text : List ℕ) (one other : Answer) → Serves text one → Serves text other → Agree one other
  pub ends : (text : List ℕ) (answer : Answer) → Serves text answer → IsEndOfWork answer.status

-- A command whose answer, with its notes, is determined: there is only one for a text that it serves.
abbrev pub HasNoOther : (List ℕ → Answer → Type 0) → Type 0
HasNoOther Serves = (text : List ℕ) (one other : Answer) → Serves text one → Serves text other → one ≡ other

-- ---- Commands that answer a text that keeps all rules, and refuse any other by these

-- What holds of the answers for a system: there is one, any two write the same, and they have the status of an end.
pub record AnswersSystems (IsAnswer : System → Answer → Type 0) : Type 0 where
  pub some : (system : System) → IsWhole system → (answer : Answer) × IsAnswer system answer
  pub agree : (system : System) → IsWhole system → (one other : Answer) → IsAnswer system one → IsAnswer system other → Agree one other
  pub ends : (system : System) (answer : Answer) → IsAnswer system answer → IsEndOfWork answer.status

-- Two answers for a text are answers for one system.
pub on_one_system : (IsAnswer : System → Answer → Type 0) (text : List ℕ) (one other : Answer) (a : OnAccepted IsAnswer text one)
    (b : OnAccepted IsAnswer text other) → IsAnswer b.system one
on_one_system IsAnswer text one other a b =
    subst (λ (s : System). IsAnswer s one) ((judged_once text).one_system a.system b.system a.lines b.lines a.accepted b.accepted).0 a.is

pub lawful_on_accepted : (IsAnswer : System → Answer → Type 0) → AnswersSystems IsAnswer → IsLawful IsRefusedAt (OnAccepted IsAnswer)
lawful_on_accepted IsAnswer answers = record {
  judged = λ text. by text (judged_once text).judged;
  one_refusal = λ text. (judged_once text).one_refusal;
  not_both = λ text line rule answer refused serves. (judged_once text).not_both serves.system serves.lines line rule serves.accepted refused;
  agree = λ text one other a b.
      answers.agree b.system (whole_of text b.system b.lines b.accepted) one other (on_one_system IsAnswer text one other a b) b.is;
  ends = λ text answer serves. answers.ends serves.system answer serves.is;
}
  where
    by : (text : List ℕ) → ((system : System) × (lines : List ℕ) × IsAcceptedAs text system lines) ⊎ ((line : ℕ) × (rule : ℕ) × IsRefusedAt text line rule)
        → ((line : ℕ) × (rule : ℕ) × IsRefusedAt text line rule) ⊎ ((answer : Answer) × OnAccepted IsAnswer text answer)
    by text (inl (system, lines, accepted)) =
        let answer = answers.some system (whole_of text system lines accepted) in
        inr (answer.0, record { system = system; lines = lines; accepted = accepted; is = answer.1 })
    by text (inr refused) = inl refused

pub determined_on_accepted : (IsAnswer : System → Answer → Type 0)
    → ((system : System) → IsWhole system → (one other : Answer) → IsAnswer system one → IsAnswer system other → one ≡ other)
    → HasNoOther (OnAccepted IsAnswer)
determined_on_accepted IsAnswer same text one other a b =
    same b.system (whole_of text b.system b.lines b.accepted) one other (on_one_system IsAnswer text one other a b) b.is

-- The same for commands whose answer for a system is one piece.
pub lawful_piece : (piece : System → List ℕ) → IsLawful IsRefusedAt (OnAccepted (λ system answer. answer ≡ piece_answer (piece system)))
lawful_piece piece = lawful_on_accepted (λ system answer. answer ≡ piece_answer (piece system)) (record {
  some = λ system whole. (piece_answer (piece system), refl);
  agree = λ system whole one other a b. agree_as_same one other (a ∙ sym b);
  ends = λ system answer is. subst (λ (a : Answer). IsEndOfWork a.status) (sym is) tt;
})

pub determined_piece : (piece : System → List ℕ) → HasNoOther (OnAccepted (λ system answer. answer ≡ piece_answer (piece system)))
determined_piece piece = determined_on_accepted (λ system answer. answer ≡ piece_answer (piece system)) (λ system whole one other a b. a ∙ sym b)

-- ---- Commands that have a rule of their own, which the system of an accepted text may break

-- What holds of the answers for a system: there is one, or it breaks the rule, and not both. Any two write the same, and they have the
-- status of an end.
pub record AnswersOrBreaks (IsAnswer : System → Answer → Type 0) (Breaks : System → Type 0) : Type 0 where
  pub some : (system : System) → IsWhole system → ((answer : Answer) × IsAnswer system answer) ⊎ Breaks system
  pub not_both : (system : System) (answer : Answer) → IsAnswer system answer → Breaks system → ⊥
  pub agree : (system : System) → IsWhole system → (one other : Answer) → IsAnswer system one → IsAnswer system other → Agree one other
  pub ends : (system : System) (answer : Answer) → IsAnswer system answer → IsEndOfWork answer.status

pub lawful_with_rule : (IsAnswer : System → Answer → Type 0) (Breaks : System → Type 0) (number : ℕ) → AnswersOrBreaks IsAnswer Breaks
    → IsLawful (RefusesAlso Breaks number) (OnAccepted IsAnswer)
lawful_with_rule IsAnswer Breaks number answers = record {
  judged = λ text. by text (judged_once text).judged;
  one_refusal = λ text. once text;
  not_both = λ text. never_both text;
  agree = λ text one other a b.
      answers.agree b.system (whole_of text b.system b.lines b.accepted) one other (on_one_system IsAnswer text one other a b) b.is;
  ends = λ text answer serves. answers.ends serves.system answer serves.is;
}
  where
    told : (text : List ℕ) (system : System) (lines : List ℕ) → IsAcceptedAs text system lines → ((answer : Answer) × IsAnswer system answer) ⊎ Breaks system
        → ((line : ℕ) × (rule : ℕ) × RefusesAlso Breaks number text line rule) ⊎ ((answer : Answer) × OnAccepted IsAnswer text answer)
    told text system lines accepted (inl (answer, is)) =
        inr (answer, record { system = system; lines = lines; accepted = accepted; is = is })
    told text system lines accepted (inr breaks) =
        inl (1, number, inr (record { system = system; lines = lines; accepted = accepted; breaks = breaks; at = refl; by = refl }))

    by : (text : List ℕ) → ((system : System) × (lines : List ℕ) × IsAcceptedAs text system lines) ⊎ ((line : ℕ) × (rule : ℕ) × IsRefusedAt text line rule)
        → ((line : ℕ) × (rule : ℕ) × RefusesAlso Breaks number text line rule) ⊎ ((answer : Answer) × OnAccepted IsAnswer text answer)
    by text (inl (system, lines, accepted)) = told text system lines accepted (answers.some system (whole_of text system lines accepted))
    by text (inr (line, rule, refused)) = inl (line, rule, inl refused)

    once : (text : List ℕ) (line rule other third : ℕ) → RefusesAlso Breaks number text line rule → RefusesAlso Breaks number text other third
        → (line ≡ other) × (rule ≡ third)
    once text line rule other third (inl a) (inl b) = (judged_once text).one_refusal line rule other third a b
    once text line rule other third (inl a) (inr b) = absurd ((judged_once text).not_both b.system b.lines line rule b.accepted a)
    once text line rule other third (inr a) (inl b) = absurd ((judged_once text).not_both a.system a.lines other third a.accepted b)
    once text line rule other third (inr a) (inr b) = (a.at ∙ sym b.at, a.by ∙ sym b.by)

    never_both : (text : List ℕ) (line rule : ℕ) (answer : Answer) → RefusesAlso Breaks number text line rule → OnAccepted IsAnswer text answer → ⊥
    never_both text line rule answer (inl refused) serves =
        (judged_once text).not_both serves.system serves.lines line rule serves.accepted refused
    never_both text line rule answer (inr breaks) serves =
        let same = ((judged_once text).one_system breaks.system serves.system breaks.lines serves.lines breaks.accepted serves.accepted).0 in
        answers.not_both serves.system answer serves.is (subst Breaks same breaks.breaks)

-- ---- Commands that read nothing

-- What holds of the answers of such a command: there is exactly one, with the status of an end.
pub record HasOneAnswer (IsAnswer : Answer → Type 0) : Type 0 where
  pub answer : Answer
  pub is : IsAnswer answer
  pub only : (other : Answer) → IsAnswer other → other ≡ answer
  pub ends : IsEndOfWork answer.status

pub lawful_unread : (IsAnswer : Answer → Type 0) → HasOneAnswer IsAnswer → IsLawful (λ text line rule. ⊥) (λ text. IsAnswer)
lawful_unread IsAnswer one = record {
  judged = λ text. inr (one.answer, one.is);
  one_refusal = λ text line by other rule refused. absurd refused;
  not_both = λ text line rule answer refused. absurd refused;
  agree = λ text a b is also. agree_as_same a b (one.only a is ∙ sym (one.only b also));
  ends = λ text answer is. subst (λ (a : Answer). IsEndOfWork a.status) (sym (one.only answer is)) one.ends;
}

pub determined_unread : (IsAnswer : Answer → Type 0) → HasOneAnswer IsAnswer → HasNoOther (λ text. IsAnswer)
determined_unread IsAnswer one text a b is also = one.only a is ∙ sym (one.only b also)

-- ---- Commands whose input has a limit of their own

-- What holds of the answers for inputs of any length: those longer than the limit break the rule of their length.
pub lawful_within : (limit : ℕ) (Refuses : List ℕ → ℕ → ℕ → Type 0) (Serves : List ℕ → Answer → Type 0) → IsLawful Refuses Serves
    → IsLawful (RefusesWithin limit Refuses) (AnswersWithin limit Serves)
lawful_within limit Refuses Serves law = record {
  judged = λ text. by text (at_most_or_above (length text) limit);
  one_refusal = λ text. once text;
  not_both = λ text. never_both text;
  agree = λ text one other a b. law.agree text one other a.serves b.serves;
  ends = λ text answer answers. law.ends text answer answers.serves;
}
  where
    never_long : {A : Type 0} (text : List ℕ) → length text ≤ limit → limit < length text → A
    never_long text within long = absurd (omega (arith, within, long))

    short : (text : List ℕ) → length text ≤ limit → ((line : ℕ) × (rule : ℕ) × Refuses text line rule) ⊎ ((answer : Answer) × Serves text answer)
        → ((line : ℕ) × (rule : ℕ) × RefusesWithin limit Refuses text line rule) ⊎ ((answer : Answer) × AnswersWithin limit Serves text answer)
    short text within (inl (line, rule, refused)) = inl (line, rule, inr (record { within = within; refused = refused }))
    short text within (inr (answer, serves)) = inr (answer, record { within = within; serves = serves })

    by : (text : List ℕ) → (length text ≤ limit) ⊎ (limit < length text)
        → ((line : ℕ) × (rule : ℕ) × RefusesWithin limit Refuses text line rule) ⊎ ((answer : Answer) × AnswersWithin limit Serves text answer)
    by text (inl within) = short text within (law.judged text)
    by text (inr long) = inl (1, 2, inl (record { long = long; at = refl; by = refl }))

    once : (text : List ℕ) (line rule other third : ℕ) → RefusesWithin limit Refuses text line rule → RefusesWithin limit Refuses text other third
        → (line ≡ other) × (rule ≡ third)
    once text line rule other third (inl a) (inl b) = (a.at ∙ sym b.at, a.by ∙ sym b.by)
    once text line rule other third (inl a) (inr b) = never_long text b.within a.long
    once text line rule other third (inr a) (inl b) = never_long text a.within b.long
    once text line rule other third (inr a) (inr b) = law.one_refusal text line rule other third a.refused b.refused

    never_both : (text : List ℕ) (line rule : ℕ) (answer : Answer) → RefusesWithin limit Refuses text line rule → AnswersWithin limit Serves text answer → ⊥
    never_both text line rule answer (inl longer) answers = never_long text answers.within longer.long
    never_both text line rule answer (inr short) answers = law.not_both text line rule answer short.refused answers.serves

pub determined_within : (limit : ℕ) (Serves : List ℕ → Answer → Type 0) → HasNoOther Serves → HasNoOther (AnswersWithin limit Serves)
determined_within limit Serves same text one other a b = same text one other a.serves b.serves

-- An input that is longer than the limit.
pub longer : (limit most : ℕ) (Refuses : List ℕ → ℕ → ℕ → Type 0) (text : List ℕ) → Some limit ≡ Some most → most < length text
    → RefusesWithin limit Refuses text 1 2
longer limit most Refuses text is long =
    inl (record { long = subst (λ n. n < length text) (sym (same_Some limit most is)) long; at = refl; by = refl })
