-- The header of an accepted pair defines each name as the header that is written of what it means.
use Rattle.ks_output.proofs.Prelude.{ap₂, append-nil, subst, module_end, modules_last, is_companion, ◌≡◌, ◌+◌, ℕ, Bool, true, false, cond, nat_eq, List, [], ◌∷◌, ◌++◌, length, length-append, drop, Option, Some, None, Ok, refl, sym, ap, ◌∙◌, append_assoc, arith, common_steps, rules, filter, bytes_decides, cond-true, cond-false, cases_Bool, and_parts, is_eq, order, opened, lines_of, take-append_seam, IsConfiguration, Configuration, Kind, is_symbol_name, is_title, defines, definitions, lf_lines, nat_list_cmp_total, starts_with}
use Rattle.std.specs.Prelude.{is_some, ◌&&◌, nat_lt, ◌||◌}
use Rattle.std.proofs.Common.{map as map_list, inl, inr}
use Rattle.std.specs.FinMap as map
use Rattle.ks_symbols.specs.Lines.{max_bytes}
use Rattle.ks_output.specs.Definitions.{without_lf}
use Rattle.ks_output.specs.Header.{definition_line}
use Rattle.ks_output.specs.Written.{title_in, conf_heading, heading_of, bodies, explains, with_pairs, pairs_of, read_bodies, written}
use Rattle.ks_output.specs.WrittenLaws.{AcceptedIsConfiguration, HeadersDefineAlike}
use Rattle.ks_output.proofs.Definitions.{line_defines, heading_of_defines, same_test, in_order, definitions_are_of_entries}
use Rattle.ks_output.proofs.Companions.{line_of, InEitherOrder, one_behind}
use Rattle.ks_output.proofs.Entries.{tied}
use Rattle.ks_output.proofs.WrittenLines.{ends_with-plain}
use Rattle.ks_output.proofs.WrittenConfigured.{one_on, entry_of, ok_same, configured}

none_got : {X : Type 0} (o : Option X) → is_some o ≡ false → o ≡ None
none_got None e = refl
none_got (Some x) e = absurd (cc e)

without_lf-line : (l : List ℕ) → without_lf (l ++ 10 ∷ []) ≡ l
without_lf-line l = search (rules, common_steps, length-append, cond-true, ends_with-plain, take-append_seam)

line_is : (name value h : List ℕ) (k : Kind) → explains name value h k ≡ true → without_lf h ≡ line_of name (k, value)
unfolding explains
line_is name value h k e =
    let is = (bytes_decides h (definition_line name k value)).0 (and_parts _ _ e).1 in
    search (rules, is, append_assoc, (without_lf-line (line_of name (k, value))))

-- one more entry under a new name
one_defined : (x : List ℕ) (m : Configuration) (name value h : List ℕ) (k : Kind) (ls : List (List ℕ)) → is_symbol_name k name ≡ true → explains name value h k ≡ true
    → map.contains_key m name ≡ false → InEitherOrder x (map.get m x) (map.get m (x ++ module_end)) ls
    → InEitherOrder x (map.get (map.insert m name (k, value)) x) (map.get (map.insert m name (k, value)) (x ++ module_end)) (ls ++ filter (defines x) (without_lf h ∷ []))
one_defined x m name value h k ls named passes new are =
    let y = x ++ module_end in
    let s : Kind × List ℕ = (k, value) in
    let line = line_is name value h k passes in
    let test = line_defines x name k value named ∙ ap₂ (cond (is_companion k)) (same_test y name) (same_test x name) in
    let gone : (z : List ℕ) → is_eq (order z name) ≡ true → (name ≡ z) × (map.get m z ≡ None) =
    λ z is. let same = tied z name is in (sym same, ap (map.get m) same ∙ none_got (map.get m name) new) in
    let one = one_behind x name s (map.get m x) (map.get m y) ls (is_eq (order x name)) (is_eq (order y name)) (defines x (line_of name s)) (gone x) (gone y) test are in
    rw (map.get-insert nat_list_cmp_total m name s x, map.get-insert nat_list_cmp_total m name s y, line) one

filter-one : (p : List ℕ → Bool) (h : List ℕ) (hs : List (List ℕ)) → filter p (h ∷ hs) ≡ filter p (h ∷ []) ++ filter p hs
filter-one p h hs = grind arith

all_defined : (x : List ℕ) (n : ℕ) (m : Configuration) (ls hs said : List (List ℕ)) (end : Configuration)
    → InEitherOrder x (map.get m x) (map.get m (x ++ module_end)) said → with_pairs n m ls hs ≡ Ok end
    → InEitherOrder x (map.get end x) (map.get end (x ++ module_end)) (said ++ filter (defines x) (map_list without_lf hs))
unfolding with_pairs
all_defined x n m [] [] said end are e =
    let same = ok_same m end (Ok m) refl e in
    subst (λ (c : Configuration). InEitherOrder x (map.get c x) (map.get c (x ++ module_end)) (said ++ [])) same
    (subst (InEitherOrder x (map.get m x) (map.get m (x ++ module_end))) (sym (append-nil said)) are)
all_defined x n m [] (h ∷ hs) said end are e = absurd (cc e)
all_defined x n m (l ∷ ls) [] said end are e = absurd (cc e)
all_defined x n m (l ∷ ls) (h ∷ hs) said end are e =
    let on = one_on n m l h ls hs end e in
    let t = on.taken in
    let passed = filter (defines x) (map_list without_lf hs) in
    let one = one_defined x m t.name t.value h t.kind said (entry_of m l h on.later t).named t.passes t.new are in
    let later = subst (λ (c : Configuration). InEitherOrder x (map.get c x) (map.get c (x ++ module_end)) (said ++ filter (defines x) (without_lf h ∷ []))) (sym t.is) one in
    let again = all_defined x (n + 1) on.later ls hs (said ++ filter (defines x) (without_lf h ∷ [])) end later on.rest in
    subst (InEitherOrder x (map.get end x) (map.get end (x ++ module_end)))
    (append_assoc said (filter (defines x) (without_lf h ∷ [])) passed ∙ ap (λ rest. said ++ rest) (sym (filter-one (defines x) (without_lf h) (map_list without_lf hs)))) again

-- what an accepted pair is
record Accepted (auto header : List ℕ) (settings : Configuration) : Type 0 where
  titled : is_title (title_in auto) ≡ true
  autos : List (List ℕ)
  rest : List ℕ
  is : header ≡ heading_of (title_in auto) header ++ rest
  pairs : with_pairs 5 map.empty autos (lines_of rest) ≡ Ok settings

accepted_bodies : (auto header : List ℕ) (s : Configuration) → read_bodies (bodies auto header) ≡ Ok s → Accepted auto header s
unfolding bodies pairs_of
accepted_bodies auto header s e =
    let t = title_in auto in
    elim (cases_Bool (is_title t && starts_with nat_eq auto (conf_heading t) && starts_with nat_eq header (heading_of t header))) [
      | inl all ↦
          let parts = and_parts _ _ all in
          record {
            titled = (and_parts _ _ parts.0).0;
            autos = lines_of (drop (length (conf_heading t)) auto);
            rest = drop (length (heading_of t header)) header;
            is = opened header (heading_of t header) parts.1;
            pairs = sym (ap read_bodies (cond-true _ _ _ all)) ∙ e;
          }
      | inr other ↦ absurd (cc (sym (ap read_bodies (cond-false _ _ _ other)) ∙ e))
    ]

accepted : (auto header : List ℕ) (s : Configuration) → written auto header ≡ Ok s → Accepted auto header s
unfolding written
accepted auto header s e = elim (cases_Bool (nat_lt max_bytes (length auto) || nat_lt max_bytes (length header))) [
  | inl large ↦ absurd (cc (sym (cond-true _ _ _ large) ∙ e))
  | inr small ↦ accepted_bodies auto header s (sym (cond-false _ _ _ small) ∙ e)
]

none_configured : IsConfiguration map.empty
none_configured x s e = absurd (cc (sym (map.get-empty order x) ∙ e))

pub accepted_is_configuration : AcceptedIsConfiguration
accepted_is_configuration auto header s e =
    let a = accepted auto header s e in
    (a.titled, configured 5 map.empty a.autos (lines_of a.rest) s none_configured a.pairs)

abbrev none : Configuration
none = map.empty

nothing : (x : List ℕ) → InEitherOrder x (map.get none x) (map.get none (x ++ module_end)) []
nothing x = rw (map.get-empty order x, map.get-empty order (x ++ module_end)) (inl refl)

pub headers_define_alike : HeadersDefineAlike
unfolding definitions lf_lines
headers_define_alike auto header s e x =
    let a = accepted auto header s e in
    let good = accepted_is_configuration auto header s e in
    let defined = all_defined x 5 map.empty a.autos (lines_of a.rest) [] s (nothing x) a.pairs in
    ap modules_last (ap (λ text. filter (defines x) (lf_lines text)) a.is ∙ heading_of_defines x (title_in auto) header a.rest a.titled)
    ∙ in_order s x _ good.1 defined
    ∙ sym (definitions_are_of_entries (title_in auto) s good.0 good.1 x)
