-- One line more of a bench list. Assumes nothing.
use Rattle.std.proofs.Common.{◌≡◌, ℕ, suc, ◌+◌, ◌<◌, ◌≤◌, Bool, true, false, cond, not, ltb, List, [], ◌∷◌, ◌++◌, length, take, drop, set, Some, None, Ok, Err, Option, Result, sym, refl, ap, ◌∙◌, subst, arith, le-ltb, lt-ltb, ltb-true, append-nil, append_assoc}
use native.Mathlib.Decide.{dec_lt}
use Rattle.std.specs.List.{prefix_len, before_first, onto_first}
use Rattle.std.proofs.lemmas.List.{length-set, length-drop, length-take-le, take_all, take-append-drop, take_more_set, drop-set-lt, drop-drop}
use Rattle.std.proofs.lemmas.List.Folds.{length-prefix_len}
use Rattle.std.proofs.lemmas.List.Splits.{slice_split_first}
use Rattle.std.proofs.lemmas.List.Sums.{prefix_len-le-length}
use Rattle.bench_list.specs.declared.lines.NotANumber as lines
use Rattle.bench_list.specs.declared.list.ListFault.{ListFault}
use Rattle.bench_list.specs.declared.list.ListFault.TheVariants.{NotANumber, TooManyRows}
use Rattle.bench_list.specs.Lines.{line_of, lines_of, newline, inside}
use Rattle.bench_list.specs.Reading.{Reading, Read, Stepped, Placed, reading, on_line, refused, row_before, answer_of}

-- a text with no newline is one line
pub last_of_lines : (bs : List ℕ) → prefix_len inside bs ≡ length bs → lines_of bs ≡ bs ∷ []
last_of_lines [] h = refl
last_of_lines (b ∷ bs) h = by_byte (newline b) h (last_of_lines bs)
  where
    by_byte : (t : Bool) → cond (not t) (1 + prefix_len inside bs) 0 ≡ suc (length bs) → (prefix_len inside bs ≡ length bs → lines_of bs ≡ bs ∷ [])
        → cond t ([] ∷ lines_of bs) (onto_first b (lines_of bs)) ≡ (b ∷ bs) ∷ []
    by_byte true h later = absurd (omega arith)
    by_byte false h later = ap (onto_first b) (later (omega arith))

-- the lines from the one that begins at `at` on: none past the end of the text
abbrev pub lines_from : List ℕ → ℕ → List (List ℕ)
lines_from text at = cond (ltb (length text) at) [] (lines_of (drop at text))

pub end_within : (text : List ℕ) (at : ℕ) → at ≤ length text → at + prefix_len inside (drop at text) ≤ length text
end_within text at within = omega (arith, within, prefix_len-le-length inside (drop at text), length-drop at text)

pub line_within : (text : List ℕ) (at : ℕ) (line : List ℕ) → at ≤ length text → line ≡ before_first newline (drop at text) → at + length line ≤ length text
line_within text at line within is_line = omega (arith, end_within text at within, ap length is_line, length-prefix_len inside (drop at text))

-- the line that begins at `at`, and the lines after it
one_line : (text : List ℕ) (at : ℕ) → at ≤ length text
    → lines_from text at ≡ before_first newline (drop at text) ∷ lines_from text (at + (length (before_first newline (drop at text)) + 1))
one_line text at within =
    ap (λ t. cond t [] (lines_of left)) (le-ltb (length text) at within) ∙ by_end (dec_lt size (length left))
    ∙ ap (λ n. before_first newline left ∷ lines_from text (at + (n + 1))) (sym (length-prefix_len inside left))
  where
    left : List ℕ
    left = drop at text

    size : ℕ
    size = prefix_len inside left

    by_end : Dec (size < length left) → lines_of left ≡ before_first newline left ∷ lines_from text (at + (size + 1))
    by_end (yes h) =
        slice_split_first newline left 0 h ∙ ap (λ ls. before_first newline left ∷ lines_of ls) (drop-drop (size + 1) at text)
        ∙ ap (λ t. before_first newline left ∷ cond t [] (lines_of (drop (at + (size + 1)) text))) (sym (le-ltb (length text) (at + (size + 1)) (omega (arith, h, within, length-drop at text))))
    by_end (no h) =
        let all : size ≡ length left = omega (arith, h, prefix_len-le-length inside left) in
        last_of_lines left all ∙ ap (λ l. l ∷ []) (sym (take_all size left (omega (arith, all))))
        ∙ ap (λ t. before_first newline left ∷ cond t [] (lines_of (drop (at + (size + 1)) text))) (sym (lt-ltb (length text) (at + (size + 1)) (omega (arith, all, within, length-drop at text))))

abbrev pub rows_before : List ℕ → Reading → Reading
rows_before xs r = record { rows = xs ++ r.rows; fault = r.fault }

-- `count` rows were read, and what is later completes the reading r
pub record Going (r : Reading) (entry now : List ℕ) (count : ℕ) (later : Reading) : Type 0 where
  pub few : count ≤ length entry
  pub long : length now ≡ length entry
  pub goes : r ≡ rows_before (take count now) later
  pub rest : drop count now ≡ drop count entry

-- what a line leaves: more lines to read, or the end
abbrev pub Next : Reading → List ℕ → (ℕ → Reading) → Result ℕ ListFault → List ℕ → Type 0
Next r entry later (Ok count) after = Going r entry after count (later count)
Next r entry later (Err f) after = Read r entry (Err f) after

module _ (r : Reading) (entry : List ℕ) where
  front : (now : List ℕ) (count : ℕ) → length now ≡ length entry → count ≤ length entry → drop count now ≡ drop count entry → now ≡ take count now ++ drop (length (take count now)) entry
  front now count long few rest =
      sym (take-append-drop count now) ∙ ap (λ d. take count now ++ d) (rest ∙ ap (λ n. drop n entry) (sym (length-take-le count now (omega arith))))

  closed : (fault : Option ListFault) (now : List ℕ) (count : ℕ) → Going r entry now count (record { rows = []; fault = fault }) → Read r entry (answer_of (take count now) fault) now
  closed fault now count g = record {
    says = sym (ap (λ x. answer_of x.rows x.fault) g.goes ∙ ap (λ xs. answer_of xs fault) (append-nil (take count now)));
    holds = front now count g.long g.few g.rest ∙ sym (ap (λ xs. xs ++ drop (length xs) entry) (ap (λ x. x.rows) g.goes ∙ append-nil (take count now)));
  }

  pub done : (now : List ℕ) (count : ℕ) → Going r entry now count (record { rows = []; fault = None }) → Read r entry (Ok count) now
  done now count g = subst (λ n. Read r entry (Ok n) now) (length-take-le count now (omega (arith, g.few, g.long))) (closed None now count g)

  module _ (now : List ℕ) (count line : ℕ) (later : ℕ → Reading) where
    placed : (n : ℕ) → count < length entry → Going r entry now count (row_before n (later (count + 1)))
        → Going r entry (set now count n) (count + 1) (later (count + 1))
    placed n within g =
        let next = later (count + 1) in
        let rows_are : take count now ++ n ∷ next.rows ≡ take (count + 1) (set now count n) ++ next.rows =
        sym (ap (λ xs. xs ++ next.rows) (take_more_set now count n (omega (arith, within, g.long))) ∙ append_assoc (take count now) (n ∷ []) next.rows) in
        record {
          few = omega (arith, within);
          long = length-set now count n ∙ g.long;
          goes = g.goes ∙ ap (λ ys. record { rows = ys; fault = next.fault }) rows_are;
          rest = drop-set-lt (count + 1) now count n (omega arith) ∙ sym (drop-drop 1 count now) ∙ ap (drop 1) g.rest ∙ drop-drop 1 count entry;
        }

    pub step : (x : Result (Option ℕ) lines.NotANumber) (answer : Result ℕ ListFault) (after : List ℕ)
        → Going r entry now count (on_line x (length entry) count line later) → Stepped x line count now answer after → Next r entry later answer after
    step (Ok None) answer after g s =
        subst (λ a. Next r entry later a after) (sym s.0) (subst (λ w. Going r entry w count (later count)) (sym s.1) g)
    step (Err e) answer after g s =
        subst (λ a. Next r entry later a after) (sym s.0) (subst (λ w. Read r entry (Err (NotANumber line)) w) (sym s.1) (closed (Some (NotANumber line)) now count g))
    step (Ok (Some n)) answer after g s = by_room (ltb count (length entry)) refl g (subst (λ m. Placed (ltb count m) n line count now answer after) g.long s)
      where
        by_room : (t : Bool) → ltb count (length entry) ≡ t → Going r entry now count (cond t (row_before n (later (count + 1))) (refused (TooManyRows line (length entry))))
            → Placed t n line count now answer after → Next r entry later answer after
        by_room false e g s =
            subst (λ a. Next r entry later a after) (sym (s.0 ∙ ap (λ m. Err (TooManyRows line m)) g.long))
            (subst (λ w. Read r entry (Err (TooManyRows line (length entry))) w) (sym s.1) (closed (Some (TooManyRows line (length entry))) now count g))
        by_room true e g s =
            subst (λ a. Next r entry later a after) (sym s.0)
            (subst (λ w. Going r entry w (count + 1) (later (count + 1))) (sym s.1) (placed n (ltb-true count (length entry) e) g))

-- the line that begins at `at` was taken
pub line_taken : (r : Reading) (entry now : List ℕ) (count index : ℕ) (text : List ℕ) (at : ℕ) (line : List ℕ) (answer : Result ℕ ListFault) (after : List ℕ)
    → at ≤ length text → line ≡ before_first newline (drop at text)
    → Going r entry now count (reading (length entry) count (index + 1) (lines_from text at)) → Stepped (line_of line) (index + 1) count now answer after
    → Next r entry (λ so_far. reading (length entry) so_far (index + 1 + 1) (lines_from text (at + (length line + 1)))) answer after
line_taken r entry now count index text at line answer after within is_line g s =
    let cut = one_line text at within ∙ ap (λ l. l ∷ lines_from text (at + (length l + 1))) (sym is_line) in
    step r entry now count (index + 1) (λ so_far. reading (length entry) so_far (index + 1 + 1) (lines_from text (at + (length line + 1)))) (line_of line) answer after
    (subst (λ ls. Going r entry now count (reading (length entry) count (index + 1) ls)) cut g) s

-- every line was taken
pub lines_ended : (r : Reading) (entry now : List ℕ) (count index : ℕ) (text : List ℕ) (at : ℕ) → length text < at
    → Going r entry now count (reading (length entry) count (index + 1) (lines_from text at)) → Read r entry (Ok count) now
lines_ended r entry now count index text at past g =
    done r entry now count
    (subst (λ t. Going r entry now count (reading (length entry) count (index + 1) (cond t [] (lines_of (drop at text))))) (lt-ltb (length text) at past) g)
