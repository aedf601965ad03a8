-- A text that is sent page by page.
use Rattle.std.proofs.Common.{◌≡◌, ℕ, ◌+◌, ◌<◌, ◌≤◌, Bool, List, [], ◌∷◌, ◌++◌, length, take, drop, get_or, Option, Result, Err, refl, sym, ap, subst, ◌∙◌}
use Rattle.std.proofs.{Common.{append_assoc, append-nil, Vec, Global, arith}, KnownBytes.{Appends-trans}, lemmas.Grind.{flat_map-append}}
use Rattle.std.{proofs.lemmas.{List.{take-append-drop, take_all, take_more}, Bool.Decides.{nat_tests}}, specs.List.{flat_map}}
use Rattle.lz_slot.specs.declared.header.Header.{Header}
use Rattle.lz_judge.specs.{declared.finding.{Finding.{Finding}, Survey.{Survey, TheVariants.{Found}}}, Surveys.{is_good}}
use Rattle.lz_proto.specs.{Steps.{IsCutShort, SendTells}, declared.fault.SessionFault.{SessionFault, TheVariants.{Write}}}
use Rattle.lazyset_file_commands.specs.Checks.{end_text, found_status, found_text, head_text, line_of, shown_text, survey_status}
use Rattle.lazyset_file_commands.specs.{Tellings.{IsSentTo, SentOrCut, Tells, status_sent}, declared.shown.Shown.{Shown, TheVariants.{Counts}}}
use Rattle.lazyset_file_commands.{specs.declared.status.Status.{Status}, proofs.SentTexts.{sent_less, sent_more}}

-- what was sent is cut short where the text goes on
pub cut_within : (before after : Option (List ℕ)) (text more : List ℕ) → IsCutShort before after text → IsCutShort before after (text ++ more)
cut_within before after text more cut = sent_less before after text more Write cut

pub sent_or_cut : (before after : Option (List ℕ)) (text : List ℕ) (r : Result (Unit {0}) SessionFault) → SendTells before after text r → SentOrCut before after text r
sent_or_cut before after text r sent = grind (arith, nat_tests)

pub cut_tells : (before after : Option (List ℕ)) (text : List ℕ) (fault : SessionFault) → SendTells before after text (Err fault) → IsCutShort before after text
cut_tells before after text fault sent = grind (arith, nat_tests)

pub or_cut_tells : (before after : Option (List ℕ)) (text : List ℕ) (told : Status) (r : Result (Unit {0}) SessionFault) → SentOrCut before after text r → Tells before after text told (status_sent r told)
or_cut_tells before after text told r sent = grind (arith, nat_tests)

module _ (before mid : Option (List ℕ)) (text page : List ℕ) (h : IsSentTo before mid text page) where
  -- the text goes on
  goes : (more : List ℕ) → text ++ more ≡ h.0 ++ (page ++ more)
  goes more = ap (λ (x : List ℕ). x ++ more) h.2 ∙ append_assoc h.0 page more

  pub page_more : (after : Option (List ℕ)) (more left : List ℕ) → IsSentTo mid after (page ++ more) left → IsSentTo before after (text ++ more) left
  page_more after more left (sent, appends, is) = (
    h.0 ++ sent,
    Appends-trans before mid after h.0 sent h.1 appends,
    goes more ∙ ap (λ (x : List ℕ). h.0 ++ x) is ∙ sym (append_assoc h.0 sent left),
  )

  pub page_cut : (after : Option (List ℕ)) (more : List ℕ) → IsCutShort mid after (page ++ more) → IsCutShort before after (text ++ more)
  page_cut after more cut = subst (λ (t : List ℕ). IsCutShort before after t) (sym (goes more)) (sent_more before mid after h.0 (page ++ more) (Err Write) h.1 cut)

  pub page_all : (after : Option (List ℕ)) (r : Result (Unit {0}) SessionFault) → SendTells mid after page r → SendTells before after text r
  page_all after r sent = subst (λ (t : List ℕ). SendTells before after t r) (sym h.2) (sent_more before mid after h.0 page r h.1 sent)

-- the lines of the findings
module _ (shown : Shown) (found : List Finding) where
  -- up to a finding
  abbrev pub lines_to : ℕ → List ℕ
  lines_to n = flat_map (line_of shown) (take n found)

  one_line : (finding : Finding) → flat_map (line_of shown) (finding ∷ []) ≡ line_of shown finding
  one_line finding = append-nil (line_of shown finding)

  lines_more : (i : ℕ) (finding : Finding) → i < length found → finding ≡ get_or found i finding → lines_to (i + 1) ≡ lines_to i ++ line_of shown finding
  lines_more i finding lt at =
      ap (flat_map (line_of shown)) (take_more found i finding lt ∙ ap (λ (f : Finding). take i found ++ f ∷ []) (sym at))
      ∙ flat_map-append (line_of shown) (take i found) (finding ∷ []) ∙ ap (λ (x : List ℕ). lines_to i ++ x) (one_line finding)

  pub lines_step : (first : List ℕ) (i : ℕ) (finding : Finding) → i < length found → finding ≡ get_or found i finding → (first ++ lines_to i) ++ line_of shown finding ≡ first ++ lines_to (i + 1)
  lines_step first i finding lt at = grind (arith, nat_tests, append_assoc, lines_more)

  pub lines_all : (i : ℕ) → length found ≤ i → lines_to i ≡ flat_map (line_of shown) found
  lines_all i end = ap (flat_map (line_of shown)) (take_all i found end)

  -- what is cut short within the first lines is cut short
  pub lines_cut : (before after : Option (List ℕ)) (first last : List ℕ) (i : ℕ) → IsCutShort before after (first ++ lines_to i) → IsCutShort before after (first ++ flat_map (line_of shown) found ++ last)
  lines_cut before after first last i cut =
      let rest = flat_map (line_of shown) (drop i found) in
      let all : flat_map (line_of shown) found ≡ lines_to i ++ rest = ap (flat_map (line_of shown)) (sym (take-append-drop i found)) ∙ flat_map-append (line_of shown) (take i found) (drop i found) in
      let whole : (first ++ lines_to i) ++ rest ≡ first ++ flat_map (line_of shown) found = append_assoc first (lines_to i) rest ∙ ap (λ (x : List ℕ). first ++ x) (sym all) in
      cut_within before after (first ++ flat_map (line_of shown) found) last (subst (λ (t : List ℕ). IsCutShort before after t) whole (cut_within before after (first ++ lines_to i) rest cut))

no_lines : (found : List Finding) → flat_map (line_of Counts) found ≡ []
no_lines [] = refl
no_lines (e ∷ found) = grind (arith, nat_tests, no_lines found)

pub found_parts : (shown : Shown) (header : Header) (found : List Finding) → head_text shown header found ++ flat_map (line_of shown) found ≡ found_text shown header found
found_parts shown header found = grind (arith, nat_tests, no_lines, append-nil)

-- what was told of a survey
module _ (shown : Shown) (header : Header) (findings : Vec Finding Global) where
  pub found_told : (survey : Survey) → survey ≡ Found header findings → (page : List ℕ) (one other : List Finding) (good : Bool) (r : Result (Unit {0}) SessionFault) (state status : Status) (before after : Option (List ℕ))
      → page ≡ head_text shown header one → one ≡ findings.items → other ≡ findings.items → good ≡ is_good survey → SentOrCut before after (page ++ flat_map (line_of shown) other ++ end_text shown good) r
      → state ≡ found_status good → status ≡ status_sent r state → Tells before after (shown_text shown survey) (survey_status survey) status
  found_told survey is page one other good r state status before after head same also told sent ends tells = grind (arith, nat_tests, found_parts, or_cut_tells)
