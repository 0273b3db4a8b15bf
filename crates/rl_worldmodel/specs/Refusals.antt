-- Small scripts of which a line is refused, and why; and tokens that are read.
use Rattle.std.specs.Prelude.{ℕ, ◌≡◌, true, false, List, [], ◌∷◌, ◌++◌, replicate, Option, Some, None, Result, Ok, Err, codes, pos, negsuc}
use Rattle.rl_runs.specs.declared.script.ScriptCause.TheVariants as cause
use Rattle.rl_runs.specs.declared.script.Line.{Line}
use Rattle.rl_runs.specs.declared.script.Line.TheVariants.{Act, Step, Page, Poll, FeedId}
use Rattle.rl_runs.specs.declared.commands.Command.TheVariants.{Leave, Operate}
use Rattle.rl_types.specs.declared.objects.Op.{Op}
use Rattle.rl_types.specs.declared.objects.Op.TheVariants as ops
use Rattle.rl_ids.specs.Objects.{object_hash}
use Rattle.rl_ids.specs.declared.objects.ObjectId.TheVariants.{Root, Made}
use Rattle.rl_ids.specs.declared.objects.ObjectKind.TheVariants as kinds
use Rattle.rl_ids.specs.declared.objects.MapValue.{MapValue}
use Rattle.rl_ids.specs.declared.objects.MapValue.TheVariants as values
use Rattle.rl_worldmodel.specs.Script.{script_of, line_of, LineRefusal, Said}

-- which line of a script is refused, and why; none where none is
abbrev pub refused_in : Result (List Line) LineRefusal → Option LineRefusal
refused_in (Ok script) = None
refused_in (Err refused) = Some refused

abbrev pub refused : List ℕ → Option LineRefusal
refused bytes = refused_in (script_of false bytes)

-- and of a race
abbrev pub refused_race : List ℕ → Option LineRefusal
refused_race bytes = refused_in (script_of true bytes)

-- sixty-five clients
abbrev pub clients : List ℕ
clients =
    codes "client c0\nclient c1\nclient c2\nclient c3\nclient c4\nclient c5\nclient c6\nclient c7\nclient c8\nclient c9\nclient c10\nclient c11\nclient c12\n"
    ++ codes "client c13\nclient c14\nclient c15\nclient c16\nclient c17\nclient c18\nclient c19\nclient c20\nclient c21\nclient c22\nclient c23\nclient c24\nclient c25\n"
    ++ codes "client c26\nclient c27\nclient c28\nclient c29\nclient c30\nclient c31\nclient c32\nclient c33\nclient c34\nclient c35\nclient c36\nclient c37\nclient c38\n"
    ++ codes "client c39\nclient c40\nclient c41\nclient c42\nclient c43\nclient c44\nclient c45\nclient c46\nclient c47\nclient c48\nclient c49\nclient c50\nclient c51\n"
    ++ codes "client c52\nclient c53\nclient c54\nclient c55\nclient c56\nclient c57\nclient c58\nclient c59\nclient c60\nclient c61\nclient c62\nclient c63\nclient c64\n"

-- ten times 10,000 entries, and one more
abbrev pub many_feeds : List ℕ
many_feeds =
    codes "feed r 10000 x\nfeed r 10000 x\nfeed r 10000 x\nfeed r 10000 x\nfeed r 10000 x\n"
    ++ codes "feed r 10000 x\nfeed r 10000 x\nfeed r 10000 x\nfeed r 10000 x\nfeed r 10000 x\n"
    ++ codes "feedid r k x\n"

abbrev pub a : List ℕ
a = codes "A"

abbrev pub r : List ℕ
r = codes "r"

-- so many letters
abbrev pub letters : ℕ → List ℕ
letters count = replicate count 97

-- one operation of the client A on the channel r
abbrev pub one_operation : Op → Said
one_operation op = Ok (Some (Act a (Operate r (op ∷ []))))

-- the root's key k is given a value
abbrev pub sets : MapValue → Said
sets value = one_operation (ops.MapSet Root (codes "k") value)

pub record RefusesLines : Type 0 where
  pub undeclared : refused (codes "pub A room hi") ≡ Some (1, cause.Order)
  pub unknown : refused (codes "jump") ≡ Some (1, cause.Word)
  pub twice : refused (codes "client A\n\nclient A\n") ≡ Some (3, cause.Order)
  pub recovers_none : refused (codes "client A\nrecover A B") ≡ Some (2, cause.Order)
  pub missing : refused (codes "client A\npub A room") ≡ Some (2, cause.Count)
  pub empty_text : refused (codes "client A\npub A room ") ≡ Some (2, cause.Text)
  pub trailing : refused (codes "settle ") ≡ Some (1, cause.Count)
  pub leading : refused (codes " settle") ≡ Some (1, cause.Word)
  pub bad_name : refused (codes "client a-b") ≡ Some (1, cause.Name)
  pub long_name : refused (codes "client abcdefghijklmnopq") ≡ Some (1, cause.Name)
  pub no_transport : refused (codes "client A\nstep A/0") ≡ Some (2, cause.Name)
  pub two_slashes : refused (codes "client A\nstep A/1/2") ≡ Some (2, cause.Name)
  pub bad_id : refused (codes "client A\npubid A r k! x") ≡ Some (2, cause.Name)
  pub bad_channel : refused (codes "client A\nattach A r/m") ≡ Some (2, cause.Channel)
  pub bad_number : refused (codes "tick 01") ≡ Some (1, cause.Number)
  pub long_tick : refused (codes "tick 1000000000001") ≡ Some (1, cause.Number)
  pub too_many : refused (codes "feed r 10001 x") ≡ Some (1, cause.Number)
  pub none_fed : refused (codes "feed r 0 x") ≡ Some (1, cause.Number)
  pub bad_object : refused (codes "client A\ninc A r counter:a@01 1") ≡ Some (2, cause.Object)
  pub bad_nonce : refused (codes "client A\nmap A r map/a-b@1") ≡ Some (2, cause.Object)
  pub bad_whole : refused (codes "client A\ninc A r root 9223372036854775808") ≡ Some (2, cause.Number)
  pub low_whole : refused (codes "client A\ninc A r root -9223372036854775809") ≡ Some (2, cause.Number)
  pub bad_key : refused (codes "client A\nset A r root k! text:v") ≡ Some (2, cause.Key)
  pub no_value : refused (codes "client A\nset A r root k") ≡ Some (2, cause.Count)
  pub empty_value : refused (codes "client A\nset A r root k ") ≡ Some (2, cause.Value)
  pub empty_text_value : refused (codes "client A\nset A r root k text:") ≡ Some (2, cause.Value)
  pub bad_bool : refused (codes "client A\nset A r root k bool:True") ≡ Some (2, cause.Value)
  pub half_byte : refused (codes "client A\nset A r root k bytes:0") ≡ Some (2, cause.Value)
  pub upper_byte : refused (codes "client A\nset A r root k bytes:0F") ≡ Some (2, cause.Value)
  pub no_byte : refused (codes "client A\nset A r root k bytes:") ≡ Some (2, cause.Value)
  pub bad_ref : refused (codes "client A\nset A r root k ref:none") ≡ Some (2, cause.Value)
  pub two_wholes : refused (codes "client A\nset A r root k whole:1 2") ≡ Some (2, cause.Value)
  pub no_data : refused (codes "client A\nenter A r w") ≡ Some (2, cause.Count)
  pub empty_data : refused (codes "client A\nenter A r w ") ≡ Some (2, cause.Text)
  pub bad_member : refused (codes "client A\nenter A r w! x") ≡ Some (2, cause.Name)
  pub too_much : refused (codes "client A\nleave A r w x") ≡ Some (2, cause.Count)
  pub first_token : refused (codes "client A\nset A r! root! k! x") ≡ Some (2, cause.Channel)
  pub not_text : refused (35 ∷ 255 ∷ []) ≡ Some (1, cause.Text)
  pub a_client_too_many : refused clients ≡ Some (65, cause.Order)
  pub fed_too_much : refused many_feeds ≡ Some (11, cause.Total)
  pub no_race_line : refused_race (codes "client A\npoll A room") ≡ Some (2, cause.Race)
  pub order_first : refused_race (codes "poll A room") ≡ Some (1, cause.Order)
  pub race_lines : refused_race (codes "client A\nopen A\nattach A r\nenter A r w x\ninc A r counter:a@0 1\ntick 5\nexpire\nreap\nage r\ncut A\nclose A\nsettle") ≡ None
  pub carriage_return : refused (codes "client A\r\n# open B\nsettle\r\n") ≡ None
  pub carriage_return_kept : refused (codes "client A\r") ≡ Some (1, cause.Name)
  pub minus : line_of (codes "counter A r counter:a@0 -5") ≡ one_operation (ops.CounterCreate (Made kinds.Counter (codes "a") 0) (negsuc 4))
  pub minus_zero : line_of (codes "inc A r root -0") ≡ one_operation (ops.CounterInc Root (pos 0))
  pub least : line_of (codes "set A r root k whole:-9223372036854775808") ≡ sets (values.Whole (negsuc 9223372036854775807))
  pub greatest : line_of (codes "set A r root k whole:9223372036854775807") ≡ sets (values.Whole (pos 9223372036854775807))
  pub spaces : line_of (codes "set A r root k text: a  b ") ≡ sets (values.Text (codes " a  b "))
  pub bytes : line_of (codes "set A r root k bytes:00ff") ≡ sets (values.Bytes (0 ∷ 255 ∷ []))
  pub truth : line_of (codes "set A r root k bool:false") ≡ sets (values.Bool false)
  pub ref : line_of (codes "set A r root k ref:map:m@7") ≡ sets (values.Ref (Made kinds.Map (codes "m") 7))
  pub transport : line_of (codes "step A/12") ≡ Ok (Some (Step a (Some 12)))
  pub made : line_of (codes "map A r map/n@7") ≡ one_operation (ops.MapCreate (Made kinds.Map (object_hash [] (codes "n")) 7) [])
  pub no_race_recover : refused_race (codes "client A\nrecover A A") ≡ Some (2, cause.Race)
  pub no_race_attach_at : refused_race (codes "client A\nattachat A r 1 0") ≡ Some (2, cause.Race)
  pub no_race_get : refused_race (codes "client A\nget A") ≡ Some (2, cause.Race)
  pub no_race_step : refused_race (codes "client A\nstep A") ≡ Some (2, cause.Race)
  pub no_race_page : refused_race (codes "client A\npage A r") ≡ Some (2, cause.Race)
  pub no_race_timer : refused_race (codes "client A\ntimer A") ≡ Some (2, cause.Race)
  pub no_race_feed : refused_race (codes "client A\nfeed r 1 x") ≡ Some (2, cause.Race)
  pub no_race_feed_id : refused_race (codes "client A\nfeedid r k x") ≡ Some (2, cause.Race)
  pub count_first : refused (codes "client a-b c") ≡ Some (1, cause.Count)
  pub count_before_channel : refused (codes "client A\nset A r! root k") ≡ Some (2, cause.Count)
  pub two_returns : refused (codes "client A\r\r\n") ≡ Some (1, cause.Name)
  pub deletes : line_of (codes "delete A r map:m@7") ≡ one_operation (ops.Delete (Made kinds.Map (codes "m") 7))
  pub leaves : line_of (codes "leave A r w") ≡ Ok (Some (Act a (Leave r (codes "w"))))
  pub feeds_id : line_of (codes "feedid r k x") ≡ Ok (Some (FeedId r (codes "k") (codes "x")))
  pub pages : line_of (codes "page A/3 r") ≡ Ok (Some (Page a (Some 3) r))
  pub polls : line_of (codes "poll A/3 r") ≡ Ok (Some (Poll a (Some 3) r))

-- each bound of a token, with what was refused above on both sides
pub record BoundsRefuse : Type 0 where
  pub longest_name : refused (codes "client abcdefghijklmnop") ≡ None
  pub longest_channel : refused (codes "client A\nattach A " ++ letters 64) ≡ None
  pub long_channel : refused (codes "client A\nattach A " ++ letters 65) ≡ Some (2, cause.Channel)
  pub longest_id : refused (codes "client A\npubid A r " ++ letters 64 ++ codes " x") ≡ None
  pub long_id : refused (codes "client A\npubid A r " ++ letters 65 ++ codes " x") ≡ Some (2, cause.Name)
  pub longest_key : refused (codes "client A\nremove A r root " ++ letters 64) ≡ None
  pub long_key : refused (codes "client A\nremove A r root " ++ letters 65) ≡ Some (2, cause.Key)
  pub longest_text : refused (codes "client A\npub A r " ++ letters 4096) ≡ None
  pub long_text : refused (codes "client A\npub A r " ++ letters 4097) ≡ Some (2, cause.Text)
  pub longest_text_value : refused (codes "client A\nset A r root k text:" ++ letters 4096) ≡ None
  pub long_text_value : refused (codes "client A\nset A r root k text:" ++ letters 4097) ≡ Some (2, cause.Value)
  pub longest_fed_text : refused (codes "feed r 1 " ++ letters 64) ≡ None
  pub long_fed_text : refused (codes "feed r 1 " ++ letters 65) ≡ Some (1, cause.Text)
  pub last_transport : refused (codes "client A\nstep A/100000") ≡ None
  pub past_transports : refused (codes "client A\nstep A/100001") ≡ Some (2, cause.Name)
  pub longest_tick : refused (codes "tick 1000000000000") ≡ None
  pub greatest_serial : refused (codes "client A\nattachat A r 18446744073709551615 18446744073709551615") ≡ None
  pub past_epochs : refused (codes "client A\nattachat A r 18446744073709551616 0") ≡ Some (2, cause.Number)
  pub past_places : refused (codes "client A\nattachat A r 0 18446744073709551616") ≡ Some (2, cause.Number)
  pub last_milli : refused (codes "client A\nmap A r map/n@9007199254740991") ≡ None
  pub past_millis : refused (codes "client A\nmap A r map/n@9007199254740992") ≡ Some (2, cause.Object)
