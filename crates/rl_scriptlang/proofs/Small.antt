-- The lines of a script name and send what is small enough to travel.
use Rattle.std.proofs.Common.{◌≡◌, ℕ, ◌<◌, ◌≤◌, Bool, true, false, ◌&&◌, cond, List, [], ◌∷◌, ◌++◌, length, suc, refl, sym, ◌∙◌, ap, subst, arith}
use Rattle.std.specs.Prelude.{⊤, nat_le, Option, Some, None, Result, Ok, Err, bytes_eq, codes, if◌then◌else◌}
use Rattle.std.specs.List.{AllByRecursion, slice_split, list_all}
use Rattle.std.specs.Str.{is_utf8}
use Rattle.std.specs.Str.Lines.{lines}
use Rattle.std.proofs.lemmas.Bool.Decides.{nat_tests}
use Rattle.rl_numbers.specs.declared.limits.TheConstants.{MAX_COUNT, MAX_FED_TEXT, MAX_GIVEN, MAX_TEXT, MAX_WORD}
use Rattle.rl_runs.specs.declared.script.Line.{Line}
use Rattle.rl_runs.specs.declared.script.Line.TheVariants.{Client, Open, Cut, Act, Feed, Settle}
use Rattle.rl_runs.specs.declared.commands.Command.TheVariants.{Attach, AttachAt, Publish}
use Rattle.rl_runs.specs.declared.script.ScriptCause.{ScriptCause}
use Rattle.rl_runs.specs.declared.script.ScriptCause.TheVariants as cause
use Rattle.rl_model.specs.Limits.{IsChannelName, IsSmallLine, AreSmallLines}
use Rattle.rl_model.specs.Script.{Said, Refusal, unless, with_number, says, is_between, is_name, is_channel, is_channel_byte, is_blank, is_space, number_within, rest_of_line, client_line, open_line, cut_line, attach_line, attach_at_line, pub_line, feed_line, settle_line, line_by_word, line_of, in_order, in_scope, placed, line_after, with_line, go_on, script_from, script_of}

both : (x y : Bool) → (x && y) ≡ true → (x ≡ true) × (y ≡ true)
both true y is = (refl, is)
both false y is = absurd (cc)

between : (low high n : ℕ) → is_between low high n ≡ true → (low ≤ n) × (n ≤ high)
between low high n is = grind (arith, nat_tests)

channel_name : (token : List ℕ) → is_channel token ≡ true → IsChannelName token
channel_name token is =
    let size = between 1 MAX_WORD (length token) (both (is_between 1 MAX_WORD (length token)) (list_all is_channel_byte token) is).0 in
    record { some = omega (arith, size.0); fits = omega (arith, size.1) }

-- what a line says holds of it
abbrev SaysSmall : Said → Type 0
SaysSmall (Ok (Some line)) = IsSmallLine line
SaysSmall (Ok None) = ⊤
SaysSmall (Err fault) = ⊤

if_so : (test : Bool) (fault : ScriptCause) (next : Said) → (test ≡ true → SaysSmall next) → SaysSmall (unless test fault next)
if_so true fault next small = small refl
if_so false fault next small = tt

with_any : (number : Option ℕ) (next : ℕ → Said) → ((n : ℕ) → SaysSmall (next n)) → SaysSmall (with_number number next)
with_any None next small = tt
with_any (Some n) next small = small n

small_client : (tokens : List (List ℕ)) → SaysSmall (client_line tokens)
small_client [] = tt
small_client (name ∷ []) = if_so (is_name name) cause.Name (says (Client name)) (λ is. tt)
small_client (name ∷ next ∷ tokens) = tt

small_open : (tokens : List (List ℕ)) → SaysSmall (open_line tokens)
small_open [] = tt
small_open (name ∷ []) = if_so (is_name name) cause.Name (says (Open name)) (λ is. tt)
small_open (name ∷ next ∷ tokens) = tt

small_cut : (tokens : List (List ℕ)) → SaysSmall (cut_line tokens)
small_cut [] = tt
small_cut (name ∷ []) = if_so (is_name name) cause.Name (says (Cut name)) (λ is. tt)
small_cut (name ∷ next ∷ tokens) = tt

small_attach : (tokens : List (List ℕ)) → SaysSmall (attach_line tokens)
small_attach [] = tt
small_attach (name ∷ []) = tt
small_attach (name ∷ channel ∷ []) =
    if_so (is_name name) cause.Name (unless (is_channel channel) cause.Channel (says (Act name (Attach channel))))
    (λ is. if_so (is_channel channel) cause.Channel (says (Act name (Attach channel))) (channel_name channel))
small_attach (name ∷ channel ∷ next ∷ tokens) = tt

small_attach_at : (tokens : List (List ℕ)) → SaysSmall (attach_at_line tokens)
small_attach_at [] = tt
small_attach_at (name ∷ []) = tt
small_attach_at (name ∷ channel ∷ []) = tt
small_attach_at (name ∷ channel ∷ epoch ∷ []) = tt
small_attach_at (name ∷ channel ∷ epoch ∷ place ∷ []) =
    let numbers : Said = with_number (number_within 0 MAX_GIVEN epoch) (λ e. with_number (number_within 0 MAX_GIVEN place) (λ p. says (Act name (AttachAt channel (record { epoch = e; place = p }))))) in
    if_so (is_name name) cause.Name (unless (is_channel channel) cause.Channel numbers)
    (λ is. if_so (is_channel channel) cause.Channel numbers (λ named.
    with_any (number_within 0 MAX_GIVEN epoch) (λ e. with_number (number_within 0 MAX_GIVEN place) (λ p. says (Act name (AttachAt channel (record { epoch = e; place = p })))))
    (λ e. with_any (number_within 0 MAX_GIVEN place) (λ p. says (Act name (AttachAt channel (record { epoch = e; place = p })))) (λ p. channel_name channel named))))
small_attach_at (name ∷ channel ∷ epoch ∷ place ∷ next ∷ tokens) = tt

small_pub : (text : List ℕ) (tokens : List (List ℕ)) → SaysSmall (pub_line text tokens)
small_pub text [] = tt
small_pub text (name ∷ []) = tt
small_pub text (name ∷ channel ∷ []) = tt
small_pub text (name ∷ channel ∷ word ∷ words) =
    let line : Line = Act name (Publish channel (record { id = None; name = None; payload = Some text; encoding = None; client = None } ∷ [])) in
    let last : Said = unless (is_between 1 MAX_TEXT (length text)) cause.Text (says line) in
    if_so (is_name name) cause.Name (unless (is_channel channel) cause.Channel last)
    (λ is. if_so (is_channel channel) cause.Channel last (λ named.
    if_so (is_between 1 MAX_TEXT (length text)) cause.Text (says line) (λ fits.
    (channel_name channel named, record { id = omega arith; name = refl; payload = (between 1 MAX_TEXT (length text) fits).1; encoding = refl; client = refl }))))

small_feed : (text : List ℕ) (tokens : List (List ℕ)) → SaysSmall (feed_line text tokens)
small_feed text [] = tt
small_feed text (channel ∷ []) = tt
small_feed text (channel ∷ count ∷ []) = tt
small_feed text (channel ∷ count ∷ word ∷ words) =
    let counted : Said = with_number (number_within 1 MAX_COUNT count) (λ n. unless (is_between 1 MAX_FED_TEXT (length text)) cause.Text (says (Feed channel n text))) in
    if_so (is_channel channel) cause.Channel counted (λ named.
    with_any (number_within 1 MAX_COUNT count) (λ n. unless (is_between 1 MAX_FED_TEXT (length text)) cause.Text (says (Feed channel n text))) (λ n.
    if_so (is_between 1 MAX_FED_TEXT (length text)) cause.Text (says (Feed channel n text)) (λ fits.
    (channel_name channel named, omega (arith, (between 1 MAX_FED_TEXT (length text) fits).1)))))

small_settle : (tokens : List (List ℕ)) → SaysSmall (settle_line tokens)
small_settle [] = tt
small_settle (token ∷ tokens) = tt

either : (test : Bool) (one other : Said) → SaysSmall one → SaysSmall other → SaysSmall (if test then one else other)
either true one other first second = first
either false one other first second = second

small_word : (line : List ℕ) (words : List (List ℕ)) → SaysSmall (line_by_word line words)
small_word line [] = tt
small_word line (word ∷ tokens) =
    either (bytes_eq word (codes "client")) _ _ (small_client tokens)
    (either (bytes_eq word (codes "open")) _ _ (small_open tokens)
    (either (bytes_eq word (codes "cut")) _ _ (small_cut tokens)
    (either (bytes_eq word (codes "attach")) _ _ (small_attach tokens)
    (either (bytes_eq word (codes "attachat")) _ _ (small_attach_at tokens)
    (either (bytes_eq word (codes "pub")) _ _ (small_pub (rest_of_line line) tokens)
    (either (bytes_eq word (codes "feed")) _ _ (small_feed (rest_of_line line) tokens)
    (either (bytes_eq word (codes "settle")) _ _ (small_settle tokens) tt)))))))

small_line : (text : List ℕ) → SaysSmall (line_of text)
small_line text =
    if_so (is_utf8 text) cause.Text (if is_blank text then Ok None else line_by_word text (slice_split is_space text))
    (λ is. either (is_blank text) (Ok None) (line_by_word text (slice_split is_space text)) tt (small_word text (slice_split is_space text)))

small_after : (before : List Line) (said : Said) → SaysSmall said → SaysSmall (line_after before said)
small_after before (Err fault) small = tt
small_after before (Ok None) small = tt
small_after before (Ok (Some line)) small =
    if_so (in_order before line) cause.Order (unless (in_scope before line) cause.Word (says line))
    (λ is. if_so (in_scope before line) cause.Word (says line) (λ fits. small))

with_small : (before : List Line) (line : Line) → AreSmallLines before → IsSmallLine line → AreSmallLines (before ++ line ∷ [])
with_small [] line each own = (own, tt)
with_small (first ∷ before) line each own = (each.0, with_small before line each.1 own)

abbrev HasSmallLines : Result (List Line) Refusal → Type 0
HasSmallLines (Ok all) = AreSmallLines all
HasSmallLines (Err refusal) = ⊤

goes_small : (number : ℕ) (before : List Line) (said : Said) (rest : List Line → Result (List Line) Refusal) → AreSmallLines before → SaysSmall said
    → ((all : List Line) → AreSmallLines all → HasSmallLines (rest all)) → HasSmallLines (go_on number said before rest)
goes_small number before (Err fault) rest each small next = tt
goes_small number before (Ok None) rest each small next = next before each
goes_small number before (Ok (Some line)) rest each small next = next (before ++ line ∷ []) (with_small before line each small)

small_from : (texts : List (List ℕ)) (number : ℕ) (before : List Line) → AreSmallLines before → HasSmallLines (script_from texts number before)
small_from [] number before each = each
small_from (text ∷ texts) number before each =
    goes_small number before (line_after before (line_of text)) (script_from texts (suc number)) each (small_after before (line_of text) (small_line text)) (λ all small. small_from texts (suc number) all small)

pub small_lines : (bytes : List ℕ) (all : List Line) → script_of bytes ≡ Ok all → AreSmallLines all
small_lines bytes all is = subst HasSmallLines is (small_from (lines bytes) 1 [] tt)

-- no line is left
pub no_more : (rest : List ℕ) (number : ℕ) (before : List Line) → length rest ≡ 0 → script_from (lines rest) number before ≡ Ok before
no_more [] number before is = refl
no_more (byte ∷ rest) number before is = absurd (cc)
