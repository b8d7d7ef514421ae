-- clap takes all words of which none begins with `-`, with or without `--stats` behind them, and
-- their line has them as they stand.
use Rattle.std.proofs.Common.{◌≡◌, ◌==◌, ◌&&◌, true, false, List, [], ◌∷◌, ◌++◌, Some, None, codes, refl, ap, sym, ◌∙◌, bytes_eq, fold, is_some, unwrap_or, append_assoc, subst}
use Rattle.std.specs.List.{list_all}
use Rattle.std.proofs.lemmas.Bool.{not-true, and_parts}
use Rattle.clap.specs.Words.{Rule, Text, Row, Kinds, built}
use Rattle.clap.specs.Kinds.{or_else}
use Rattle.clap.specs.Lexer.{long_of, short_of}
use Rattle.clap.specs.Walk.{Walk, walked, walk, walk_from, nothing_held, settled, to_positional, arg_by_index, positional, finished, reading_by}
use Rattle.clap.specs.Faults.{turn_fault, walk_fault, settle_fault, defaults_fault, check_fault, entered_fault}
use Rattle.clap.specs.Simple.{Shape, entered}
use Rattle.clap.specs.declared.parser.matches.ValueSource.TheVariants.{CommandLine}
use Rattle.clap.proofs.OnLiterals.{clap_on_literals}
use Rattle.command_line.specs.Parser.{copar_app, rest_rule}
use Rattle.command_line.specs.Lines.{line_in, line_of}
use Rattle.command_line.specs.Plain.{is_plain, line_with, PlainWordsAreTaken, FlaggedWordsAreTaken}
use Rattle.command_line.proofs.ByClap.{line-taken}

-- what a plain word is not
no-dashes : (word : Text) → is_plain word ≡ true → bytes_eq word (45 ∷ 45 ∷ []) ≡ false
no-dashes [] e = refl
no-dashes (b ∷ others) e = rw (not-true (b == 45) e)

no-long : (word : Text) → is_plain word ≡ true → long_of word ≡ None
no-long [] e = refl
no-long (b ∷ others) e = rw (not-true (b == 45) e)

no-short : (word : Text) → is_plain word ≡ true → short_of word ≡ None
no-short [] e = refl
no-short (b ∷ others) e = rw (not-true (b == 45) e)

abbrev shape : Shape
shape = (built copar_app).top

abbrev rules : List Rule
rules = shape.rules

-- the flag as a word
abbrev flag : Text
flag = codes "--stats"

-- the walk after a word that goes to the positional in its turn
abbrev stepped : Walk → Text → Walk
stepped w word = to_positional rules (arg_by_index rules w.position) word w w.held

abbrev after_action : Text → Walk
after_action a = stepped (walk_from nothing_held) a

abbrev after_file : Text → Text → Walk
after_file a f = stepped (after_action a) f

abbrev after_rest : Text → Text → Text → Walk
after_rest a f r = stepped (after_file a f) r

-- the row of the words of REST that were used so far
abbrev rest_row : List Text → Row
rest_row vs = record {
  id = codes "REST";
  values = vs;
  count = None;
  source = Some CommandLine;
  reading = reading_by (unwrap_or (arg_by_index rules 3) rest_rule);
}

-- the walk at a word of REST, after others of them
abbrev in_rest : Text → Text → List Text → Text → Walk
in_rest a f vs r = record {
  held = record {
    rows = (settled rules (after_file a f).held).rows ++ rest_row vs ∷ [];
    pending = Some (codes "REST", r ∷ []);
    skip = 0;
  };
  waiting = positional;
  position = 3;
  is_trailing = false;
  stopped = None;
}

-- One turn of the walk.
walk-action : (a : Text) → is_plain a ≡ true
    → walked rules [] (walk_from nothing_held) a ≡ after_action a
unfolding clap_on_literals
walk-action a p = rw (no-dashes a p, no-long a p, no-short a p)

walk-file : (a f : Text) → is_plain f ≡ true
    → walked rules [] (after_action a) f ≡ after_file a f
unfolding clap_on_literals
walk-file a f p = rw (no-dashes f p, no-long f p, no-short f p)

walk-first : (a f r : Text) → is_plain r ≡ true
    → walked rules [] (after_file a f) r ≡ after_rest a f r
unfolding clap_on_literals
walk-first a f r p = rw (no-dashes r p, no-long r p, no-short r p)

walk-second : (a f r n : Text) → is_plain n ≡ true
    → walked rules [] (after_rest a f r) n ≡ in_rest a f (r ∷ []) n
unfolding clap_on_literals
walk-second a f r n p = rw (no-dashes n p, no-long n p, no-short n p)

walk-next : (a f : Text) (vs : List Text) (r n : Text) → is_plain n ≡ true
    → walked rules [] (in_rest a f vs r) n ≡ in_rest a f (vs ++ r ∷ []) n
unfolding clap_on_literals
walk-next a f vs r n p = rw (no-dashes n p, no-long n p, no-short n p)

turn-action : (a : Text) → is_plain a ≡ true
    → turn_fault shape [] (walk_from nothing_held) a ≡ []
unfolding clap_on_literals
turn-action a p = rw (no-dashes a p, no-long a p, no-short a p)

turn-file : (a f : Text) → is_plain f ≡ true → turn_fault shape [] (after_action a) f ≡ []
unfolding clap_on_literals
turn-file a f p = rw (no-dashes f p, no-long f p, no-short f p)

turn-first : (a f r : Text) → is_plain r ≡ true → turn_fault shape [] (after_file a f) r ≡ []
unfolding clap_on_literals
turn-first a f r p = rw (no-dashes r p, no-long r p, no-short r p)

turn-second : (a f r n : Text) → is_plain n ≡ true
    → turn_fault shape [] (after_rest a f r) n ≡ []
unfolding clap_on_literals
turn-second a f r n p = rw (no-dashes n p, no-long n p, no-short n p)

turn-next : (a f : Text) (vs : List Text) (r n : Text) → is_plain n ≡ true
    → turn_fault shape [] (in_rest a f vs r) n ≡ []
unfolding clap_on_literals
turn-next a f vs r n p = rw (no-dashes n p, no-long n p, no-short n p)

-- a walk over words that has no fault so far
pub record Walks (from : Walk) (words : List Text) (to : Walk) : Type 0 where
  pub ends : fold (walked rules []) from words ≡ to
  pub passes : walk_fault shape [] from words ≡ []

walks-none : (w : Walk) → Walks w [] w
unfolding walk_fault
walks-none w = record { ends = refl; passes = refl }

walks-more : (w after to : Walk) (word : Text) (rest : List Text)
    → turn_fault shape [] w word ≡ [] → walked rules [] w word ≡ after → Walks after rest to
    → Walks w (word ∷ rest) to
unfolding walk_fault
walks-more w after to word rest t e r = record {
  ends = ap (λ v. fold (walked rules []) v rest) e ∙ r.ends;
  passes = ap (λ ks. or_else ks (walk_fault shape [] (walked rules [] w word) rest)) t
      ∙ ap (λ v. walk_fault shape [] v rest) e ∙ r.passes;
}

-- one word more behind those of a walk
walks-last : (w to last : Walk) (words : List Text) (word : Text) → Walks w words to
    → turn_fault shape [] to word ≡ [] → walked rules [] to word ≡ last
    → Walks w (words ++ word ∷ []) last
unfolding walk_fault
walks-last w to last [] word walks t e =
    walks-more w last last word []
    (ap (λ v. turn_fault shape [] v word) walks.ends ∙ t)
    (ap (λ v. walked rules [] v word) walks.ends ∙ e) (walks-none last)
walks-last w to last (next ∷ words) word walks t e =
    let parts = or-none (turn_fault shape [] w next) _ walks.passes in
    walks-more w (walked rules [] w next) last next (words ++ word ∷ []) parts.0 refl
    (walks-last (walked rules [] w next) to last words word
    (record { ends = walks.ends; passes = parts.1 }) t e)
  where
    or-none : (ks next : Kinds) → or_else ks next ≡ [] → (ks ≡ []) × (next ≡ [])
    or-none [] next e = (refl, e)
    or-none (k ∷ ks) next e = cc

-- what is left of the test, where the walk over the words has come to w
abbrev left_of : Walk → Kinds
left_of w =
    or_else (entered_fault (built copar_app) w.stopped)
    (or_else (settle_fault rules shape.args_override_self w.held)
    (or_else (defaults_fault (settled rules w.held).rows rules)
    (check_fault shape (finished rules w.held)
    (is_some (entered (built copar_app) w.stopped)))))

-- words whose walk has no fault and leaves none have the line of its rows
line-walked : (words : List Text) (w : Walk) → Walks (walk_from nothing_held) words w
    → left_of w ≡ [] → line_of words ≡ Some (line_in (finished rules w.held))
line-walked words w walks none =
    line-taken words (finished rules w.held)
    (ap (λ ks. or_else ks (left_of (walk rules [] nothing_held words))) walks.passes
    ∙ ap left_of walks.ends ∙ none)
    (sym (ap (λ (v : Walk). finished rules v.held) walks.ends))

-- Words of REST, one after another.
-- the walk over more words of REST ends at one of them
rest-walks : (a f : Text) (vs : List Text) (r : Text) (rest : List Text)
    → list_all is_plain rest ≡ true
    → (us : List Text) × (l : Text) × (us ++ l ∷ [] ≡ vs ++ r ∷ rest)
    × Walks (in_rest a f vs r) rest (in_rest a f us l)
rest-walks a f vs r [] p = (vs, r, refl, walks-none _)
rest-walks a f vs r (n ∷ rest) p =
    let parts = and_parts (is_plain n) (list_all is_plain rest) p in
    let (us, l, same, walks) = rest-walks a f (vs ++ r ∷ []) n rest parts.1 in (
      us,
      l,
      same ∙ append_assoc vs (r ∷ []) (n ∷ rest),
      walks-more _ _ _ n rest (turn-next a f vs r n parts.0) (walk-next a f vs r n parts.0) walks,
    )

-- the walk may end here, with or without the flag behind it, and the line has the words
record Ends (w : Walk) (a f : Text) (rest : List Text) : Type 0 where
  bare : left_of w ≡ []
  line : line_in (finished rules w.held) ≡ line_with a f rest false
  turn : turn_fault shape [] w flag ≡ []
  flagged : left_of (walked rules [] w flag) ≡ []
  flagged_line :
      line_in (finished rules (walked rules [] w flag).held) ≡ line_with a f rest true

ends-two : (a f : Text) → Ends (after_file a f) a f []
unfolding clap_on_literals
ends-two a f = record {
  bare = refl;
  line = refl;
  turn = refl;
  flagged = refl;
  flagged_line = refl;
}

ends-three : (a f r : Text) → Ends (after_rest a f r) a f (r ∷ [])
unfolding clap_on_literals
ends-three a f r = record {
  bare = refl;
  line = refl;
  turn = refl;
  flagged = refl;
  flagged_line = refl;
}

ends-more : (a f : Text) (vs : List Text) (r : Text) → Ends (in_rest a f vs r) a f (vs ++ r ∷ [])
unfolding clap_on_literals
ends-more a f vs r = record {
  bare = refl;
  line = refl;
  turn = refl;
  flagged = refl;
  flagged_line = refl;
}

-- plain words walk to an end that has them as they stand
abbrev WalkTo : Text → Text → List Text → Type 0
WalkTo a f rest =
    (w : Walk) × Walks (walk_from nothing_held) (a ∷ f ∷ rest) w × Ends w a f rest

plain-walk : (a f : Text) (rest : List Text) → list_all is_plain (a ∷ f ∷ rest) ≡ true
    → WalkTo a f rest
plain-walk a f [] p =
    let one = and_parts (is_plain a) (is_plain f && true) p in
    let two = and_parts (is_plain f) true one.1 in (
      after_file a f,
      walks-more _ _ _ a (f ∷ []) (turn-action a one.0) (walk-action a one.0)
          (walks-more _ _ _ f [] (turn-file a f two.0) (walk-file a f two.0) (walks-none _)),
      ends-two a f,
    )
plain-walk a f (r ∷ []) p =
    let one = and_parts (is_plain a) (is_plain f && (is_plain r && true)) p in
    let two = and_parts (is_plain f) (is_plain r && true) one.1 in
    let three = and_parts (is_plain r) true two.1 in (
      after_rest a f r,
      walks-more _ _ _ a (f ∷ r ∷ []) (turn-action a one.0) (walk-action a one.0)
          (walks-more _ _ _ f (r ∷ []) (turn-file a f two.0) (walk-file a f two.0)
          (walks-more _ _ _ r [] (turn-first a f r three.0) (walk-first a f r three.0)
          (walks-none _))),
      ends-three a f r,
    )
plain-walk a f (r ∷ n ∷ rest) p =
    let one = and_parts (is_plain a)
    (is_plain f && (is_plain r && (is_plain n && list_all is_plain rest))) p in
    let two = and_parts (is_plain f) (is_plain r && (is_plain n && list_all is_plain rest)) one.1 in
    let three = and_parts (is_plain r) (is_plain n && list_all is_plain rest) two.1 in
    let four = and_parts (is_plain n) (list_all is_plain rest) three.1 in
    let (us, l, same, walks) = rest-walks a f (r ∷ []) n rest four.1 in (
      in_rest a f us l,
      walks-more _ _ _ a (f ∷ r ∷ n ∷ rest) (turn-action a one.0) (walk-action a one.0)
          (walks-more _ _ _ f (r ∷ n ∷ rest) (turn-file a f two.0) (walk-file a f two.0)
          (walks-more _ _ _ r (n ∷ rest) (turn-first a f r three.0) (walk-first a f r three.0)
          (walks-more _ _ _ n rest (turn-second a f r n four.0) (walk-second a f r n four.0)
          walks))),
      subst (Ends (in_rest a f us l) a f) same (ends-more a f us l),
    )

-- words without a flag are taken where they are of a row of the table
pub plain-taken : PlainWordsAreTaken
plain-taken a f rest p =
    let (w, walks, ends) = plain-walk a f rest p in
    line-walked (a ∷ f ∷ rest) w walks ends.bare ∙ ap (λ line. Some line) ends.line

-- words with a flag are taken where they are of a row of the table
pub flagged-taken : FlaggedWordsAreTaken
flagged-taken a f rest p =
    let (w, walks, ends) = plain-walk a f rest p in
    line-walked (a ∷ f ∷ (rest ++ flag ∷ [])) (walked rules [] w flag)
    (walks-last (walk_from nothing_held) w (walked rules [] w flag) (a ∷ f ∷ rest) flag walks
    ends.turn refl)
    ends.flagged ∙ ap (λ line. Some line) ends.flagged_line
