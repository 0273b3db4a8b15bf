use Rattle.std.proofs.Common.{◌≡◌, ◌+◌, ◌≤◌, ◌++◌, drop, length, string_bytes, ap, ◌∙◌}
use Rattle.std.specs.List.{prefix_len}
use Rattle.json.specs.Run.{is_plain}
use Rattle.rl_jsonread.proofs.Lexed.{run_read}
use Rattle.rl_jsonread.proofs.strings.run_at.Goals as goal

pub returns : goal.returns
returns c =
    let d = c.args.text.now in
    let at = c.args.at in
    let stop = c.plain_end-stop.result in
    let is : stop ≡ at + prefix_len is_plain (drop at d) = rw (← c.as_bytes.ensures.value) c.plain_end-stop.ensures.value in
    let within : stop ≤ length d = rw (← c.as_bytes.ensures.value) c.plain_end-stop.ensures.bound in
    run_read d at stop (string_bytes c.args.found.now) (string_bytes c.push_run.new.found) is within (c.in_ok-push_run.ensures ∙ ap (λ s. string_bytes c.args.found.now ++ s) c.in_ok-run.ensures.cases.0)
