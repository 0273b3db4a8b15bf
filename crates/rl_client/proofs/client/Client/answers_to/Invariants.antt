use Rattle.std.proofs.Common.{◌≡◌, map, take}
use Rattle.rl_clientmodel.specs.Hearing.{id_of}
use Rattle.rl_client.specs.Answers.{answer_with}
use Rattle.rl_client.proofs.client.Client.answers_to.Given as goal

-- the answers to the serials so far
abbrev pub invariant-loop-serial : goal.invariant-loop-serial
invariant-loop-serial l = l.answers ≡ map (answer_with l.code (id_of l.self.id)) (take l.serial-index l.serials)
