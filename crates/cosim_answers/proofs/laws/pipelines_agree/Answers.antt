use Rattle.cosim_answers.proofs.PipelineLaws.{flat_runs_are_nested, generated_runs_have_figures, nodes_print_a_prefix, prints_run_alike, runs_are_verified, tables_are_printed, upgrades_run_alike}
use Rattle.cosim_answers.proofs.laws.pipelines_agree.Goals as goal

pub returns : goal.returns
returns c = record {
  print = prints_run_alike;
  upgrade = upgrades_run_alike;
  verify = runs_are_verified;
  flatten = flat_runs_are_nested;
  stimulus = tables_are_printed;
  generated = generated_runs_have_figures;
  nodes = nodes_print_a_prefix;
}
