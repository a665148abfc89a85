-- Walks over sites.
use Rattle.std.proofs.Common.{◌≡◌, ℕ, suc, ◌+◌, Bool, true, false, List, [], ◌∷◌, ◌++◌, map, length, Result, Ok, Err, append_assoc, refl, ap, sym, ◌∙◌, arith}
use Rattle.std.specs.Prelude.{if◌then◌else◌, nat_eq}
use Rattle.std.proofs.lemmas.List.{append-nil, map-append}
use Rattle.unit_check.specs.Walks.{Walk, onward, past}
use Rattle.unit_check.specs.declared.walk.Stop.{Stop}
use Rattle.unit_check.specs.declared.walk.Stop.TheVariants as stop
use Rattle.unit_tree.specs.Sites.{Scope, Site, Headed, alone, sites}
use Rattle.unit_tree.specs.declared.line_form.LineForm.{LineForm}

-- ---- Sites of lines that follow each other

abbrev pub heads : List Headed → List LineForm
heads headed = map (λ h. h.head) headed

pub heads_alone : (lines : List LineForm) → heads (map alone lines) ≡ lines
heads_alone [] = refl
heads_alone (line ∷ lines) = ap (λ rest. line ∷ rest) (heads_alone lines)

pub sites_on : (scope : Scope) (earlier : List LineForm) (front behind : List Headed)
    → sites scope earlier (front ++ behind) ≡ sites scope earlier front ++ sites scope (earlier ++ heads front) behind
sites_on scope earlier [] behind = ap (λ e. sites scope e behind) (sym (append-nil earlier))
sites_on scope earlier (first ∷ front) behind =
    let site : Site = record { scope = scope; earlier = earlier; line = first.head } in
    let rest = sites_on scope (earlier ++ (first.head ∷ [])) front behind in
    let inner = sites scope (earlier ++ (first.head ∷ [])) front in
    ap (λ s. site ∷ first.block ++ s) rest
    ∙ ap (λ s. site ∷ s) (sym (append_assoc first.block inner (sites scope ((earlier ++ (first.head ∷ [])) ++ heads front) behind)))
    ∙ ap (λ e. site ∷ (first.block ++ inner) ++ sites scope e behind) (append_assoc earlier (first.head ∷ []) (heads front))

-- Sites of lines without blocks.
abbrev pub line_sites : Scope → List LineForm → List LineForm → List Site
line_sites scope earlier lines = sites scope earlier (map alone lines)

pub line_sites_on : (scope : Scope) (earlier front behind : List LineForm)
    → line_sites scope earlier (front ++ behind) ≡ line_sites scope earlier front ++ line_sites scope (earlier ++ front) behind
line_sites_on scope earlier front behind =
    ap (sites scope earlier) (map-append alone front behind)
    ∙ sites_on scope earlier (map alone front) (map alone behind)
    ∙ ap (λ lines. line_sites scope earlier front ++ line_sites scope (earlier ++ lines) behind) (heads_alone front)

pub line_sites_count : (scope : Scope) (earlier lines : List LineForm) → length (line_sites scope earlier lines) ≡ length lines
line_sites_count scope earlier [] = refl
line_sites_count scope earlier (line ∷ lines) = ap suc (line_sites_count scope (earlier ++ (line ∷ [])) lines)

-- ---- Walks

pub onward_onward : (met : Result ℕ Stop) (first next : Walk) → onward (onward met first) next ≡ onward met (λ n. onward (first n) next)
onward_onward (Ok n) first next = refl
onward_onward (Err why) first next = refl

pub onward_same : (met : Result ℕ Stop) (first next : Walk) → ((n : ℕ) → met ≡ Ok n → first n ≡ next n) → onward met first ≡ onward met next
onward_same (Ok n) first next same = same n refl
onward_same (Err why) first next same = refl

pub onward_none : (met : Result ℕ Stop) → onward met (λ n. Ok n) ≡ met
onward_none (Ok n) = refl
onward_none (Err why) = refl

-- A walk over sites, up to the first one that passes the test.
abbrev pub walk : (Site → Bool) → ℕ → List Site → Result ℕ Stop
walk test number [] = Ok number
walk test number (site ∷ sites) = onward (past (test site) number) (λ n. walk test n sites)

pub walk_on : (test : Site → Bool) (number : ℕ) (front behind : List Site)
    → walk test number (front ++ behind) ≡ onward (walk test number front) (λ n. walk test n behind)
walk_on test number [] behind = refl
walk_on test number (site ∷ front) behind =
    onward_same (past (test site) number) (λ n. walk test n (front ++ behind)) (λ n. onward (walk test n front) (λ m. walk test m behind))
    (λ n is. walk_on test n front behind)
    ∙ sym (onward_onward (past (test site) number) (λ n. walk test n front) (λ n. walk test n behind))

-- The number after a line is the next one.
pub next_number : (met : Bool) (number behind : ℕ) → past met number ≡ Ok behind → behind ≡ number + 1
next_number met number behind = step met (nat_eq number 4294967295)
  where
    step : (met full : Bool) → (if met then Err (stop.At number) else (if full then Err stop.Full else Ok (suc number))) ≡ Ok behind → behind ≡ number + 1
    step true full is = absurd (cc)
    step false true is = absurd (cc)
    step false false is = let here : suc number ≡ behind = cc in omega arith

-- The number after some lines.
pub counted : (test : Site → Bool) (number behind : ℕ) (along : List Site) → walk test number along ≡ Ok behind → behind ≡ number + length along
counted test number behind [] is = let here : number ≡ behind = cc in omega arith
counted test number behind (site ∷ along) is = step (past (test site) number) refl (λ n rest. counted test n behind along rest) is
  where
    step : (met : Result ℕ Stop) → past (test site) number ≡ met → ((n : ℕ) → walk test n along ≡ Ok behind → behind ≡ n + length along)
        → onward met (λ n. walk test n along) ≡ Ok behind → behind ≡ number + suc (length along)
    step (Ok n) passed others rest =
        let here = next_number (test site) number n passed in
        let there = others n rest in
        omega arith
    step (Err why) passed others rest = absurd (cc)
