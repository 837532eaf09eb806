-- What a sampling asks of its curve, its range and its options. Definitions only.
use Rattle.edge_params.specs.Params.{Sampler}
use Rattle.edge_drawing.specs.declared.Sampling.{Sampling}
use Rattle.edge_drawing.specs.Own.Drawing.{sampled_curve}
use Rattle.edge_sample.specs.Sample.{sampler}

abbrev pub sampler_of : Sampling → Sampler
sampler_of sampling = sampler sampling.drawing.now.mode (sampled_curve sampling) sampling.range sampling.options
