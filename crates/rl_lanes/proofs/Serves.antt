-- What a lane keeps where the actor of its link answers, reads and turns a page.
use Rattle.std.proofs.Common.{◌≡◌, inl, inr, ℕ, zero, suc, ◌+◌, ◌≤◌, Bool, true, false, cond, List, [], ◌∷◌, ◌++◌, length, take, drop, map, refl, sym, ◌∙◌, ap, subst, arith, append_assoc}
use Rattle.std.specs.Prelude.{⊤, Option, Some, None, ◌||◌, nat_lt}
use Rattle.std.specs.List.{AllByRecursion}
use Rattle.rl_types.specs.declared.messages.Entry.{Entry}
use Rattle.rl_types.specs.declared.messages.Given.{Given}
use Rattle.rl_events.specs.declared.channel.ChannelEvent.{ChannelEvent}
use Rattle.rl_events.specs.declared.channel.ChannelEvent.TheVariants.{Join, Read}
use Rattle.rl_events.specs.declared.channel.ChannelReply.{ChannelReply}
use Rattle.rl_events.specs.declared.channel.ChannelReply.TheVariants as replies
use Rattle.rl_events.specs.declared.channel.ReadReply.TheVariants.{Run, NotRetained}
use Rattle.rl_events.specs.declared.calls.Reply.TheVariants.{Chan}
use Rattle.rl_model.specs.Verdict.{log, head}
use Rattle.rl_model.specs.Window.{first}
use Rattle.rl_model.specs.Reply.{is_resumed, joined_place, has_presence, has_objects, reply}
use Rattle.rl_pages.specs.Frames.{end_at}
use Rattle.rl_pages.specs.State.{Sequences, next_event, page_absorbed, may_end, ended}
use Rattle.rl_actormodel.specs.declared.parts.Session.{Session}
use Rattle.rl_actormodel.specs.Attaches.{new_session}
use Rattle.rl_actormodel.specs.Reads.{moved_on}
use Rattle.rl_actormodel.specs.Replies.{Joining, reading}
use Rattle.rl_actormodel.specs.Pagings.{ended_here, paged}
use Rattle.rl_lanes.specs.Lanes.{Setup, Ask, ToAttach, ToDetach, Page, EndOfMembers, EndOfObjects, Coming, Tells, Leaves, Fails, Gives, Shows, Link, Lane}
use Rattle.rl_lanes.specs.Moves.{ends_here, page_in, reads_by, reads, turns_to, turns_page, turns}
use Rattle.rl_lanes.specs.Follows.{Took, TookEntry, TookPage, place_in, live, awaited, IsLive, Fits, answered_in, outstanding, OfLast, Part, end_of, IsAskOf, AllBelow, IsTold, IsTrue, Matches, Flows, IsLinked, HoldsOnLink, Holds, LaneHolds}
use Rattle.rl_lanes.proofs.Logs.{append_none, each_append, AreAt, read_at, head_grows, joined_low}
use Rattle.rl_lanes.proofs.Flight.{left_over, left_is, answered_append, live_on, awaited_on, live_fits_on, fits_on, ahead, behind}
use Rattle.rl_lanes.proofs.Records.{runs_grow, below_more, end_within}
use Rattle.rl_lanes.proofs.Holds.{grows, linked_grows}

-- THE FIRST ASK IS ANSWERED

-- its answer is behind what is coming
same_asks : (coming : List Coming) (one : Coming) (ask : Ask) (asks more : List Ask) → answered_in (one ∷ []) ≡ ask ∷ [] → asks ≡ ask ∷ more → answered_in (coming ++ one ∷ []) ++ more ≡ answered_in coming ++ asks
same_asks coming one ask asks more answers is =
    ap (λ xs. xs ++ more) (answered_append coming (one ∷ []) ∙ ap (λ xs. answered_in coming ++ xs) answers)
    ∙ append_assoc (answered_in coming) (ask ∷ []) more
    ∙ ap (λ xs. answered_in coming ++ xs) (sym is)

-- BY ATTACHED

abbrev pub joining_at : Setup → List ChannelEvent → Option Given → Joining
joining_at setup past given =
    let place : ℕ = joined_place setup.epoch setup.site past given in
    record {
      serial = record { epoch = setup.epoch; place = place };
      resumed = is_resumed setup.epoch setup.site past given;
      presence = has_presence setup.site past place;
      objects = has_objects setup.site past place;
    }

abbrev joined_link : Setup → List ChannelEvent → Option Given → ℕ → ℕ → List Ask → Link → Link
joined_link setup past given number sequence more link = record {
  coming = link.coming ++ Tells given (length past) (joining_at setup past given) ∷ [];
  asks = more;
  session = Some (new_session setup.name number (joining_at setup past given) sequence);
}

joined_flows : (setup : Setup) (past : List ChannelEvent) (given : Option Given) (number sequence owed : ℕ) (took : List Took) (more : List Ask) (link : Link) → left_over owed link.coming ≡ suc (length more)
    → Flows setup owed took (joined_link setup past given number sequence more link)
joined_flows setup past given number sequence owed took [] link left =
    let joining : Joining = joining_at setup past given in
    let b = behind setup.epoch owed 0 took link.coming (Tells given (length past) joining ∷ []) left tt in
    record {
      fits = b.fits;
      matches = λ none. subst (λ t. Matches setup t (Some (new_session setup.name number joining sequence))) (sym b.took_then) (refl, refl);
    }
joined_flows setup past given number sequence owed took (ask ∷ rest) link left =
    let b = behind setup.epoch owed (suc (length rest)) took link.coming (Tells given (length past) (joining_at setup past given) ∷ []) left tt in
    record { fits = b.fits; matches = λ none. absurd (cc) }

joined_linked : (setup : Setup) (past : List ChannelEvent) (given : Option Given) (number sequence : ℕ) (part : Part) (took : List Took) (joins begun : List ℕ) (more : List Ask) (link : Link)
    → link.asks ≡ ToAttach given ∷ more → end_of part.runs ≤ head setup.site past → AllBelow (length past) begun
    → IsLinked setup past part took joins begun link → IsLinked setup (Join given ∷ past) part took (length past ∷ joins) begun (joined_link setup past given number sequence more link)
joined_linked setup past given number sequence part took joins begun more link is low early old = record {
  owed = old.owed ∙ sym (ap length same);
  few = old.few;
  told = each_append (IsTrue setup (Join given ∷ past) (end_of part.runs) (length past ∷ joins) begun) link.coming (Tells given (length past) joining ∷ []) grown.told (told, tt);
  last = subst (OfLast (IsAskOf part.runs part.away part.asked)) (sym same) old.last;
  nothing = old.nothing;
  flows = λ may. joined_flows setup past given number sequence part.owed took more link left;
}
  where
    joining : Joining
    joining = joining_at setup past given

    grown : IsLinked setup (Join given ∷ past) part took (length past ∷ joins) begun link
    grown = linked_grows setup (Join given) past part took joins (length past ∷ joins) begun (λ n among. inr among) link old

    same : answered_in (link.coming ++ Tells given (length past) joining ∷ []) ++ more ≡ outstanding link
    same = same_asks link.coming (Tells given (length past) joining) (ToAttach given) link.asks more refl is

    left : left_over part.owed link.coming ≡ suc (length more)
    left = left_is part.owed link.coming link.asks old.owed ∙ ap length is

    told : IsTold setup (Join given ∷ past) (end_of part.runs) (length past ∷ joins) begun given (length past) joining
    told = record {
      before = past;
      later = [];
      taken = refl;
      at = refl;
      replied = refl;
      resumes = refl;
      tells = refl;
      within = omega (arith, joined_low setup.epoch setup.site past given, head_grows setup.site (Join given) past);
      low = low;
      own = inl refl;
      above = early;
    }

joined_on_link : (setup : Setup) (past : List ChannelEvent) (given : Option Given) (number sequence : ℕ) (part : Part) (took : List Took) (joins begun : List ℕ) (more : List Ask) (link : Link)
    → link.asks ≡ ToAttach given ∷ more → end_of part.runs ≤ head setup.site past → AllBelow (length past) begun
    → HoldsOnLink setup past part took joins begun (Some link) → HoldsOnLink setup (Join given ∷ past) part took (length past ∷ joins) begun (Some (joined_link setup past given number sequence more link))
joined_on_link setup past given number sequence part took joins begun more link is low early (inl old) = inl (joined_linked setup past given number sequence part took joins begun more link is low early old)
joined_on_link setup past given number sequence part took joins begun more link is low early (inr stuck) = inr stuck

pub joins_one : (setup : Setup) (past : List ChannelEvent) (given : Option Given) (number sequence : ℕ) (part : Part) (joins begun : List ℕ) (more : List Ask) (link : Link)
    → link.asks ≡ ToAttach given ∷ more → Holds setup past part joins begun (Some link)
    → Holds setup (Join given ∷ past) part (length past ∷ joins) begun (Some (joined_link setup past given number sequence more link))
joins_one setup past given number sequence part joins begun more link is holds = record {
  sound = runs_grow setup (Join given) past joins (length past ∷ joins) begun part.runs (λ n among. inr among) holds.sound;
  ends = holds.ends;
  early = below_more (length past) begun holds.early;
  took = holds.took;
  stands = holds.stands;
  linked = joined_on_link setup past given number sequence part holds.took joins begun more link is (end_within setup past part.runs holds.sound.each) holds.early holds.linked;
}

-- BY DETACHED OR ERROR

abbrev pub IsShort : Coming → Ask → Type 0
IsShort Leaves ask = ask ≡ ToDetach
IsShort (Fails given code) ask = ask ≡ ToAttach given
IsShort coming ask = ⊥

short_answers : (one : Coming) (ask : Ask) → IsShort one ask → answered_in (one ∷ []) ≡ ask ∷ []
short_answers Leaves ask short = ap (λ a. a ∷ []) (sym short)
short_answers (Fails given code) ask short = ap (λ a. a ∷ []) (sym short)
short_answers (Tells given number joining) ask short = absurd short
short_answers (Gives epoch entry) ask short = absurd short
short_answers (Shows page) ask short = absurd short

short_true : (setup : Setup) (past : List ChannelEvent) (end : ℕ) (joins begun : List ℕ) (one : Coming) (ask : Ask) → IsShort one ask → IsTrue setup past end joins begun one
short_true setup past end joins begun Leaves ask short = tt
short_true setup past end joins begun (Fails given code) ask short = tt
short_true setup past end joins begun (Tells given number joining) ask short = absurd short
short_true setup past end joins begun (Gives epoch entry) ask short = absurd short
short_true setup past end joins begun (Shows page) ask short = absurd short

short_fits : (epoch n : ℕ) (took : List Took) (one : Coming) (ask : Ask) → IsShort one ask → Fits epoch (suc n) took (one ∷ [])
short_fits epoch zero took Leaves ask short = tt
short_fits epoch (suc n) took Leaves ask short = tt
short_fits epoch zero took (Fails given code) ask short = tt
short_fits epoch (suc n) took (Fails given code) ask short = tt
short_fits epoch n took (Tells given number joining) ask short = absurd short
short_fits epoch n took (Gives other entry) ask short = absurd short
short_fits epoch n took (Shows page) ask short = absurd short

abbrev short_link : Coming → List Ask → Link → Link
short_link one more link = record { coming = link.coming ++ one ∷ []; asks = more; session = None }

short_on_link : (setup : Setup) (past : List ChannelEvent) (part : Part) (took : List Took) (joins begun : List ℕ) (one : Coming) (ask : Ask) (more : List Ask) (link : Link)
    → IsShort one ask → link.asks ≡ ask ∷ more → HoldsOnLink setup past part took joins begun (Some link) → HoldsOnLink setup past part took joins begun (Some (short_link one more link))
short_on_link setup past part took joins begun one ask more link short is (inr stuck) = inr stuck
short_on_link setup past part took joins begun one ask more link short is (inl old) = inl (record {
  owed = old.owed ∙ sym (ap length same);
  few = old.few;
  told = each_append (IsTrue setup past (end_of part.runs) joins begun) link.coming (one ∷ []) old.told (short_true setup past (end_of part.runs) joins begun one ask short, tt);
  last = subst (OfLast (IsAskOf part.runs part.away part.asked)) (sym same) old.last;
  nothing = old.nothing;
  flows = λ may. record {
    fits = (behind setup.epoch part.owed (length more) took link.coming (one ∷ []) left (short_fits setup.epoch (length more) took one ask short)).fits;
    matches = λ none. tt;
  };
})
  where
    same : answered_in (link.coming ++ one ∷ []) ++ more ≡ outstanding link
    same = same_asks link.coming one ask link.asks more (short_answers one ask short) is

    left : left_over part.owed link.coming ≡ suc (length more)
    left = left_is part.owed link.coming link.asks old.owed ∙ ap length is

pub answers_short : (setup : Setup) (past : List ChannelEvent) (part : Part) (joins begun : List ℕ) (one : Coming) (ask : Ask) (more : List Ask) (link : Link)
    → IsShort one ask → link.asks ≡ ask ∷ more → Holds setup past part joins begun (Some link) → Holds setup past part joins begun (Some (short_link one more link))
answers_short setup past part joins begun one ask more link short is holds = record {
  sound = holds.sound;
  ends = holds.ends;
  early = holds.early;
  took = holds.took;
  stands = holds.stands;
  linked = short_on_link setup past part holds.took joins begun one ask more link short is holds.linked;
}

-- THE SESSION PUTS SOMETHING OUT

-- what a session may put out, and as what it goes on, whatever was taken before
abbrev pub Sends : Setup → Session → List Coming → Session → Type 0
Sends setup session coming after =
    (sent : List Took) → Matches setup sent (Some session) → IsLive setup.epoch sent coming × Matches setup (live sent coming) (Some after)

abbrev put_link : List Coming → Session → Link → Link
put_link more after link = record link { coming = link.coming ++ more; session = Some after }

put_flows : (setup : Setup) (owed : ℕ) (took : List Took) (link : Link) (more : List Coming) (session after : Session) (asks : List Ask) → link.asks ≡ asks → owed ≡ length (outstanding link) → link.session ≡ Some session
    → owed ≡ length (answered_in (link.coming ++ more) ++ link.asks)
    → Sends setup session more after → Flows setup owed took link → Flows setup owed took (put_link more after link)
put_flows setup owed took link more session after [] none count has all sends c =
    let left : left_over owed link.coming ≡ 0 = left_is owed link.coming link.asks count ∙ ap length none in
    let sent : List Took = awaited owed took link.coming in
    let may = sends sent (subst (λ s. Matches setup sent s) has (c.matches none)) in
    let then : awaited owed took (link.coming ++ more) ≡ live sent more = awaited_on owed took link.coming more ∙ ap (λ n. awaited n sent more) left in
    record {
      fits = fits_on setup.epoch owed took link.coming more c.fits (subst (λ n. Fits setup.epoch n sent more) (sym left) may.0);
      matches = λ _. subst (λ t. Matches setup t (Some after)) (sym then) may.1;
    }
put_flows setup owed took link more session after (ask ∷ asks) is count has all sends c =
    let left : left_over owed (link.coming ++ more) ≡ suc (length asks) = left_is owed (link.coming ++ more) link.asks all ∙ ap length is in
    let a = ahead setup.epoch owed (length asks) took (link.coming ++ more) left in
    record { fits = a.1; matches = λ none. absurd (some none) }
  where
    some : link.asks ≡ [] → ⊥
    some none = let e : [] ≡ ask ∷ asks = sym none ∙ is in absurd (cc)

put_on_link : (setup : Setup) (past : List ChannelEvent) (part : Part) (took : List Took) (joins begun : List ℕ) (link : Link) (more : List Coming) (session after : Session) → link.session ≡ Some session
    → answered_in more ≡ [] → AllByRecursion (IsTrue setup past (end_of part.runs) joins begun) more → Sends setup session more after
    → HoldsOnLink setup past part took joins begun (Some link) → HoldsOnLink setup past part took joins begun (Some (put_link more after link))
put_on_link setup past part took joins begun link more session after has plain told sends (inr stuck) = inr stuck
put_on_link setup past part took joins begun link more session after has plain told sends (inl old) = inl (record {
  owed = old.owed ∙ sym (ap length same);
  few = old.few;
  told = each_append (IsTrue setup past (end_of part.runs) joins begun) link.coming more old.told told;
  last = subst (OfLast (IsAskOf part.runs part.away part.asked)) (sym same) old.last;
  nothing = old.nothing;
  flows = λ may. put_flows setup part.owed took link more session after link.asks refl old.owed has (old.owed ∙ sym (ap length same)) sends (old.flows may);
})
  where
    same : answered_in (link.coming ++ more) ++ link.asks ≡ outstanding link
    same = ap (λ xs. xs ++ link.asks) (answered_append link.coming more ∙ ap (λ xs. answered_in link.coming ++ xs) plain ∙ append_none (answered_in link.coming))

pub puts_out : (setup : Setup) (event : ChannelEvent) (past : List ChannelEvent) (part : Part) (joins begun : List ℕ) (link : Link) (more : List Coming) (session after : Session) → link.session ≡ Some session
    → answered_in more ≡ [] → AllByRecursion (IsTrue setup past (end_of part.runs) joins begun) more → Sends setup session more after
    → Holds setup past part joins begun (Some link) → Holds setup (event ∷ past) part joins begun (Some (put_link more after link))
puts_out setup event past part joins begun link more session after has plain told sends holds =
    grows setup event past part joins begun (Some (put_link more after link))
    (record {
      sound = holds.sound;
      ends = holds.ends;
      early = holds.early;
      took = holds.took;
      stands = holds.stands;
      linked = put_on_link setup past part holds.took joins begun link more session after has plain told sends holds.linked;
    })

-- PAGES

abbrev pub IsShow : Coming → Type 0
IsShow (Shows page) = ⊤
IsShow coming = ⊥

shows_plain : (more : List Coming) → AllByRecursion IsShow more → answered_in more ≡ []
shows_plain [] shown = refl
shows_plain (Shows page ∷ more) shown = shows_plain more shown.1
shows_plain (Tells given number joining ∷ more) shown = absurd shown.0
shows_plain (Leaves ∷ more) shown = absurd shown.0
shows_plain (Fails given code ∷ more) shown = absurd shown.0
shows_plain (Gives epoch entry ∷ more) shown = absurd shown.0

shows_true : (setup : Setup) (past : List ChannelEvent) (end : ℕ) (joins begun : List ℕ) (more : List Coming) → AllByRecursion IsShow more → AllByRecursion (IsTrue setup past end joins begun) more
shows_true setup past end joins begun [] shown = tt
shows_true setup past end joins begun (Shows page ∷ more) shown = (tt, shows_true setup past end joins begun more shown.1)
shows_true setup past end joins begun (Tells given number joining ∷ more) shown = absurd shown.0
shows_true setup past end joins begun (Leaves ∷ more) shown = absurd shown.0
shows_true setup past end joins begun (Fails given code ∷ more) shown = absurd shown.0
shows_true setup past end joins begun (Gives epoch entry ∷ more) shown = absurd shown.0

shows_live : (epoch : ℕ) (took : List Took) (more : List Coming) → AllByRecursion IsShow more → IsLive epoch took more × (place_in (live took more) ≡ place_in took)
shows_live epoch took [] shown = (tt, refl)
shows_live epoch took (Shows page ∷ more) shown = shows_live epoch (TookPage page ∷ took) more shown.1
shows_live epoch took (Tells given number joining ∷ more) shown = absurd shown.0
shows_live epoch took (Leaves ∷ more) shown = absurd shown.0
shows_live epoch took (Fails given code ∷ more) shown = absurd shown.0
shows_live epoch took (Gives other entry ∷ more) shown = absurd shown.0

page_shows : (told : ChannelReply) (pages : Sequences) → AllByRecursion IsShow (page_in told pages)
page_shows (replies.Put verdict) pages = tt
page_shows (replies.Joined serial resumed presence objects) pages = tt
page_shows (replies.Read read) pages = tt
page_shows (replies.Members items last at) pages = (tt, tt)
page_shows (replies.Objects states last at) pages = (tt, tt)
page_shows (replies.Gone place) pages = tt
page_shows replies.Ticked pages = tt
page_shows (replies.Census least at members objects) pages = tt

pub turns_follow : (setup : Setup) (one : ChannelEvent) (told : ChannelReply) (session : Session) (link : Link) (lane : Lane) → link.session ≡ Some session
    → LaneHolds setup (record lane { link = Some link }) → LaneHolds setup (turns_to one told session link lane)
turns_follow setup one told session link lane has holds =
    puts_out setup one lane.past _ lane.joins lane.begun link (page_in told session.pages) session (paged (page_absorbed told session.pages) session) has
    (shows_plain (page_in told session.pages) shown)
    (shows_true setup lane.past _ lane.joins lane.begun (page_in told session.pages) shown)
    (λ sent matches. let l = shows_live setup.epoch sent (page_in told session.pages) shown in (l.0, (matches.0, matches.1 ∙ sym l.1)))
    holds
  where
    shown : AllByRecursion IsShow (page_in told session.pages)
    shown = page_shows told session.pages

-- ENTRIES, AND THE END PAGES BEHIND THEM

ends_show_by : (first_page second : Page) (may members objects : Bool) → AllByRecursion IsShow (cond may (cond members (Shows first_page ∷ []) [] ++ cond objects (Shows second ∷ []) []) [])
ends_show_by first_page second true true true = (tt, (tt, tt))
ends_show_by first_page second true true false = (tt, tt)
ends_show_by first_page second true false true = (tt, tt)
ends_show_by first_page second true false false = tt
ends_show_by first_page second false members objects = tt

ends_show : (session : Session) → AllByRecursion IsShow (ends_here session)
ends_show session =
    ends_show_by (EndOfMembers (end_at session.pages.sequence)) (EndOfObjects (end_at session.pages.sequence))
    (may_end session.position session.pages) session.pages.members.asked session.pages.objects.asked

ended_matches_by : (setup : Setup) (took : List Took) (session : Session) (pages : Sequences) (may : Bool) → Matches setup took (Some session) → Matches setup took (Some (cond may (paged pages session) session))
ended_matches_by setup took session pages true matches = matches
ended_matches_by setup took session pages false matches = matches

ended_matches : (setup : Setup) (took : List Took) (session : Session) → Matches setup took (Some session) → Matches setup took (Some (ended_here session))
ended_matches setup took session matches = ended_matches_by setup took session (ended session.pages) (may_end session.position session.pages) matches

entries_plain : (epoch : ℕ) (entries : List Entry) → answered_in (map (Gives epoch) entries) ≡ []
entries_plain epoch [] = refl
entries_plain epoch (e ∷ entries) = entries_plain epoch entries

entries_true : (setup : Setup) (past : List ChannelEvent) (end : ℕ) (joins begun : List ℕ) (epoch place : ℕ) (entries : List Entry) → AreAt (log setup.site past) place entries
    → AllByRecursion (IsTrue setup past end joins begun) (map (Gives epoch) entries)
entries_true setup past end joins begun epoch place [] at = tt
entries_true setup past end joins begun epoch place (e ∷ entries) at = ((place, at.0, at.1), entries_true setup past end joins begun epoch (suc place) entries at.2)

entries_live : (epoch other place : ℕ) (whole entries : List Entry) (took : List Took) → other ≡ epoch → place ≡ place_in took → AreAt whole place entries → IsLive epoch took (map (Gives other) entries)
entries_live epoch other place whole [] took same begins at = tt
entries_live epoch other place whole (e ∷ entries) took same begins at =
    (same, at.0 ∙ ap suc begins, entries_live epoch other (suc place) whole entries (TookEntry e ∷ took) same (ap suc begins) at.2)

entries_upto : (epoch : ℕ) (entries : List Entry) (took : List Took) → place_in (live took (map (Gives epoch) entries)) ≡ place_in took + length entries
entries_upto epoch [] took = omega arith
entries_upto epoch (e ∷ entries) took = let l = entries_upto epoch entries (TookEntry e ∷ took) in omega (arith, l)

abbrev entries_and_ends : Session → List Entry → List Coming
entries_and_ends session entries = map (Gives session.epoch) entries ++ ends_here (moved_on (length entries) session)

entries_sent : (setup : Setup) (whole : List Entry) (session : Session) (entries : List Entry) → AreAt whole session.position entries
    → Sends setup session (entries_and_ends session entries) (ended_here (moved_on (length entries) session))
entries_sent setup whole session entries at sent matches =
    let mine : List Coming = map (Gives session.epoch) entries in
    let after : Session = moved_on (length entries) session in
    let first_live = entries_live setup.epoch session.epoch session.position whole entries sent matches.0 matches.1 at in
    let ends = shows_live setup.epoch (live sent mine) (ends_here after) (ends_show after) in
    let all : live sent (mine ++ ends_here after) ≡ live (live sent mine) (ends_here after) = live_on sent mine (ends_here after) in
    let upto : session.position + length entries ≡ place_in (live sent (mine ++ ends_here after)) =
    omega (arith, matches.1, entries_upto session.epoch entries sent, ends.1, ap place_in all) in
    (live_fits_on setup.epoch sent mine (ends_here after) first_live ends.0, ended_matches setup (live sent (mine ++ ends_here after)) after (matches.0, upto))

read_follows : (setup : Setup) (most : ℕ) (session : Session) (link : Link) (lane : Lane) → link.session ≡ Some session
    → LaneHolds setup (record lane { link = Some link }) → LaneHolds setup (reads setup most (Some session) link (record lane { link = Some link }))
read_follows setup most session link lane has holds = by_test (nat_lt (session.position + 1) (first setup.site lane.past) || nat_lt (head setup.site lane.past) session.position) where
  entries : List Entry
  entries = take most (drop session.position (log setup.site lane.past))

  at : AreAt (log setup.site lane.past) session.position entries
  at = read_at setup.site lane.past session.position most

  by_test : (behind : Bool) → LaneHolds setup (reads_by (Read session.position most) (reading (Chan (replies.Read (cond behind (NotRetained (first setup.site lane.past)) (Run entries))))) session link (record lane { link = Some link }))
  by_test true = grows setup (Read session.position most) lane.past _ lane.joins lane.begun (Some link) holds
  by_test false =
      puts_out setup (Read session.position most) lane.past _ lane.joins lane.begun link (entries_and_ends session entries) session (ended_here (moved_on (length entries) session)) has
      (answered_append (map (Gives session.epoch) entries) (ends_here (moved_on (length entries) session))
      ∙ ap (λ xs. xs ++ answered_in (ends_here (moved_on (length entries) session))) (entries_plain session.epoch entries)
      ∙ shows_plain (ends_here (moved_on (length entries) session)) (ends_show (moved_on (length entries) session)))
      (each_append (IsTrue setup lane.past _ lane.joins lane.begun) (map (Gives session.epoch) entries) (ends_here (moved_on (length entries) session))
      (entries_true setup lane.past _ lane.joins lane.begun session.epoch session.position entries at)
      (shows_true setup lane.past _ lane.joins lane.begun (ends_here (moved_on (length entries) session)) (ends_show (moved_on (length entries) session))))
      (entries_sent setup (log setup.site lane.past) session entries at)
      holds

pub reads_follow : (setup : Setup) (most : ℕ) (session : Option Session) (link : Link) (lane : Lane) → link.session ≡ session
    → LaneHolds setup (record lane { link = Some link }) → LaneHolds setup (reads setup most session link (record lane { link = Some link }))
reads_follow setup most None link lane has holds = holds
reads_follow setup most (Some session) link lane has holds = read_follows setup most session link lane has holds

page_follows : (setup : Setup) (one : Option ChannelEvent) (session : Session) (link : Link) (lane : Lane) → link.session ≡ Some session
    → LaneHolds setup (record lane { link = Some link }) → LaneHolds setup (turns_page setup one session link (record lane { link = Some link }))
page_follows setup None session link lane has holds = holds
page_follows setup (Some one) session link lane has holds = turns_follow setup one (reply setup.epoch setup.site lane.past one) session link (record lane { link = Some link }) has holds

pub pages_follow : (setup : Setup) (session : Option Session) (link : Link) (lane : Lane) → link.session ≡ session
    → LaneHolds setup (record lane { link = Some link }) → LaneHolds setup (turns setup session link (record lane { link = Some link }))
pages_follow setup None link lane has holds = holds
pages_follow setup (Some session) link lane has holds = page_follows setup (next_event session.pages) session link lane has holds
