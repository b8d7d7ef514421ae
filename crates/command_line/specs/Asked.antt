-- The request that the code has, as what was asked for.
--
-- denoted_task task == the task with its words as bytes
-- denoted request   == the request with its words as bytes
use Rattle.std.specs.Prelude.{map}
use Rattle.command_line.specs.declared.request.Task.{Task as MadeTask}
use Rattle.command_line.specs.declared.request.Task.TheVariants as tasks
use Rattle.command_line.specs.declared.request.Request.{Request as Made}
use Rattle.command_line.specs.declared.request.Request.TheVariants as made
use Rattle.command_line.specs.Requests.{Request, Task}

-- the task with its words as bytes
abbrev pub denoted_task : MadeTask → Task
denoted_task (tasks.Blocks stats) = Task.Blocks stats
denoted_task (tasks.Minimise stats) = Task.Minimise stats
denoted_task (tasks.Explain states stats) =
    Task.Explain (map (λ word. word.now) states.items) stats
denoted_task (tasks.Certify stats) = Task.Certify stats
denoted_task (tasks.Check formulas states) =
    Task.Check formulas.now (map (λ word. word.now) states.items)
denoted_task (tasks.Verify answer) = Task.Verify answer.now

-- the request with its words as bytes
abbrev pub denoted : Made → Request
denoted (made.OnFile file task) = Request.OnFile file.now (denoted_task task)
denoted (made.Trial kind seed size) = Request.Trial kind seed size
